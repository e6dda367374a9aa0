use Rattle.std.proofs.Common.{◌≡◌, map, take}
use Rattle.dsec_sorted.specs.SetViews.{members_of}
use Rattle.dsec_rrsig.specs.Signers.{period_of, signer_of}
use Rattle.dsec_sign.specs.SignerFaults.{AddsOfSet, AreSameSigners, counts_of}
use Rattle.dsec_sign.specs.SignerAsks.{all_asked}
use Rattle.dsec_sign.proofs.AskSteps.{first_asked}
use Rattle.dsec_sign.proofs.signing.sign_one.Given as goal

abbrev pub invariant-loop-i : goal.invariant-loop-i
invariant-loop-i g l = record {
  same : AreSameSigners g.I.SignRaw.key g.I.SignRaw.faults l.fn.keys l.keys;
  quiet : counts_of g.I.SignRaw.faults l.keys ≡ counts_of g.I.SignRaw.faults l.fn.keys;
  asks : all_asked g.I.SignRaw.key g.I.SignRaw.asked g.I.SignRaw.given l.keys ≡ first_asked (period_of l.config) (members_of l.set) l.i (all_asked g.I.SignRaw.key g.I.SignRaw.asked g.I.SignRaw.given l.fn.keys);
  adds : AddsOfSet g.I.SignRaw.signs (period_of l.config) (members_of l.set) (take l.i (map (signer_of g.I.SignRaw.key) l.fn.keys)) l.fn.out.items l.out.items;
}
