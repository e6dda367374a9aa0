use Rattle.std.proofs.Common.{◌≡◌, [], map, take}
use Rattle.dsec_rrsig.specs.Signers.{period_of, signer_of}
use Rattle.dsec_sign.specs.Places.{set_at}
use Rattle.dsec_sign.specs.SignerAsks.{AreAsked, all_asked}
use Rattle.dsec_sign.specs.SignerFaults.{AddsSignatures, AreSameSigners, counts_of}
use Rattle.dsec_sign.proofs.signing.sign_each_behind.Given as goal

abbrev pub invariant-loop-set : goal.invariant-loop-set
invariant-loop-set g l = record {
  same : AreSameSigners g.I.SignRaw.key g.I.SignRaw.faults l.fn.keys l.keys;
  quiet : counts_of g.I.SignRaw.faults l.keys ≡ counts_of g.I.SignRaw.faults l.fn.keys;
  asks : AreAsked (period_of l.config) (take l.set-index (map (set_at l.fn.records.items) l.sets)) (all_asked g.I.SignRaw.key g.I.SignRaw.asked g.I.SignRaw.given l.fn.keys) (all_asked g.I.SignRaw.key g.I.SignRaw.asked g.I.SignRaw.given l.keys);
  empty : l.made.items ≡ [];
  adds : AddsSignatures g.I.SignRaw.signs (period_of l.config) (take l.set-index (map (set_at l.fn.records.items) l.sets)) (map (signer_of g.I.SignRaw.key) l.fn.keys) l.fn.records.items l.records.items;
}
