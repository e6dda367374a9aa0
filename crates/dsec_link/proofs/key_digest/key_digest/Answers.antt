use Rattle.std.proofs.Common.{◌++◌, ◌∙◌, sym, ap, List, ℕ}
use Rattle.std.specs.Prelude.{Option, Some}
use Rattle.std.specs.Option.{ok_or}
use Rattle.dsec_crypto.specs.Digest.{octets_of}
use Rattle.dsec_crypto.specs.declared.digest.Digest.{Digest}
use Rattle.dsec_crypto.specs.declared.error.AlgorithmError.TheVariants.{Unsupported}
use Rattle.dsec_spec.specs.Names.{canonical_octets}
use Rattle.dsec_spec.specs.Records.{key_octets}
use Rattle.dsec_wire.specs.Views.{key_view}
use Rattle.dsec_link.proofs.KeyDigestLemmas.{digest_taken, no_digest}
use Rattle.dsec_link.proofs.key_digest.key_digest.Goals as goal

pub returns-in-Some : goal.returns-in-Some
returns-in-Some c =
    let message = canonical_octets c.args.owner.now ++ key_octets (key_view c.args.key.now) in
    ap (λ (o : Option (List ℕ)). ok_or o Unsupported) (digest_taken c.args.algorithm message c.in-Some.digest_type (sym c.digest_type.ensures ∙ c.in-Some.is))
    ∙ (let taken = sym c.digest_under.ensures in ap (λ (d : Digest). ok_or {T = List ℕ} (Some (octets_of d)) Unsupported) taken)

pub returns-in-None : goal.returns-in-None
returns-in-None c =
    let message = canonical_octets c.args.owner.now ++ key_octets (key_view c.args.key.now) in
    ap (λ (o : Option (List ℕ)). ok_or o Unsupported) (no_digest c.args.algorithm message (sym c.digest_type.ensures ∙ c.in-None.is))
