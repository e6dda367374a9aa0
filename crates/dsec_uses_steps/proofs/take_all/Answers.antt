use Rattle.std.proofs.Common.{[], ◌∷◌, refl, inl, inr, codes}
use Rattle.dsec_uses_steps.specs.Going.{Around, StopsAt}
use Rattle.dsec_uses_steps.proofs.GoingLaws.{on_err}
use Rattle.dsec_uses_steps.proofs.take_all.Goals as goal

pub loop-line-preserved : goal.loop-line-preserved
loop-line-preserved g c =
    let later : Around = record { held = g.C.Caches.held c.take.new.caches; lasting = g.C.Caches.lasting c.take.new.caches; written = g.K.Sink.written c.take.new.sink; faults = g.K.Sink.faults c.take.new.sink; checked = c.take.new.steps } in
    let taken = c.in_ok-take.ensures.taken in
    λ lines after is h. c.loop-line.invariant (c.as_str.result.now ∷ lines) after is (taken.0, c.take.new.under_way.items, later, taken.1, taken.2, h)

pub returns-clause-taken : goal.returns-clause-taken
returns-clause-taken g c =
    let now : Around = record { held = g.C.Caches.held c.loop-line.caches; lasting = g.C.Caches.lasting c.loop-line.caches; written = g.K.Sink.written c.loop-line.sink; faults = g.K.Sink.faults c.loop-line.sink; checked = c.loop-line.steps } in
    c.loop-line.invariant [] c.loop-line.under_way.items now (refl, refl)

pub returns-in_err-line-clause-stops : goal.returns-in_err-line-clause-stops
returns-in_err-line-clause-stops g c =
    let first : Around = record { held = g.C.Caches.held c.args.caches.now; lasting = g.C.Caches.lasting c.args.caches.now; written = g.K.Sink.written c.args.sink.now; faults = g.K.Sink.faults c.args.sink.now; checked = c.args.steps.now } in
    let now : Around = record { held = g.C.Caches.held c.loop-line.caches; lasting = g.C.Caches.lasting c.loop-line.caches; written = g.K.Sink.written c.loop-line.sink; faults = g.K.Sink.faults c.loop-line.sink; checked = c.loop-line.steps } in
    let before = c.loop-line.invariant [] c.loop-line.under_way.items now (refl, refl) in
    let stops : StopsAt (codes "example. 3600 IN DNSKEY 257 3 13 AQI=") 500 c.args.under_way.now.items c.loop-line.under_way.items first now =
    record { lines = before.0; now = c.loop-line.under_way.items; later = now; taken = before.1; last = inl (refl, refl, refl) } in
    on_err _ stops

pub returns-in_err-take-clause-stops : goal.returns-in_err-take-clause-stops
returns-in_err-take-clause-stops g c =
    let first : Around = record { held = g.C.Caches.held c.args.caches.now; lasting = g.C.Caches.lasting c.args.caches.now; written = g.K.Sink.written c.args.sink.now; faults = g.K.Sink.faults c.args.sink.now; checked = c.args.steps.now } in
    let now : Around = record { held = g.C.Caches.held c.loop-line.caches; lasting = g.C.Caches.lasting c.loop-line.caches; written = g.K.Sink.written c.loop-line.sink; faults = g.K.Sink.faults c.loop-line.sink; checked = c.loop-line.steps } in
    let after : Around = record { held = g.C.Caches.held c.take.new.caches; lasting = g.C.Caches.lasting c.take.new.caches; written = g.K.Sink.written c.take.new.sink; faults = g.K.Sink.faults c.take.new.sink; checked = c.take.new.steps } in
    let before = c.loop-line.invariant [] c.loop-line.under_way.items now (refl, refl) in
    let stops : StopsAt (codes "example. 3600 IN DNSKEY 257 3 13 AQI=") 500 c.args.under_way.now.items c.take.new.under_way.items first after =
    record {
      lines = before.0;
      now = c.loop-line.under_way.items;
      later = now;
      taken = before.1;
      last = elim c.in_err-take.ensures.left [
        | inl left ↦ inl left
        | inr broke ↦ inr (c.as_str.result.now, broke.0, broke.1, broke.2)
      ];
    } in
    on_err _ stops
