use Rattle.std.proofs.Common.{arith, inl, inr, refl, subst}
use Rattle.std.specs.Io.KnownBytes.{Appends}
use Rattle.dsec_spec.specs.Outside.{SentFront}
use Rattle.dsec_answer.proofs.command.tell_usage.Goals as goal

pub returns-in-Ok-clause-run : goal.returns-in-Ok-clause-run
returns-in-Ok-clause-run g c = record {
  told = λ s. subst (Appends (g.K.Sink.written c.args.sink.now) (g.K.Sink.written c.send.new.sink)) c.as_bytes.ensures.value c.in-Ok.ensures.sent;
  short = λ s. absurd (omega (arith, s));
  front = subst (SentFront (g.K.Sink.written c.args.sink.now) (g.K.Sink.written c.send.new.sink)) c.as_bytes.ensures.value c.send.ensures.front;
  statuses = inl refl;
}

pub returns-in-Err-clause-run : goal.returns-in-Err-clause-run
returns-in-Err-clause-run g c = record {
  told = λ s. absurd (omega (arith, s));
  short = λ s. absurd (omega (arith, s));
  front = subst (SentFront (g.K.Sink.written c.args.sink.now) (g.K.Sink.written c.send.new.sink)) c.as_bytes.ensures.value c.send.ensures.front;
  statuses = inr (inl refl);
}
