use Rattle.std.proofs.Common.{◌≡◌, map, take}
use Rattle.dsec_rrsig.specs.Signers.{signer_of}
use Rattle.dsec_sign.specs.SignerFaults.{tags_of}
use Rattle.dsec_sign.proofs.signing.tags_of.Given as goal

abbrev pub invariant-loop-key : goal.invariant-loop-key
invariant-loop-key g l = l.tags.items ≡ tags_of (map (signer_of g.I.SignRaw.key) (take l.key-index l.keys))
