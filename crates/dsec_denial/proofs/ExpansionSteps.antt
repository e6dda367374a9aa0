-- Whether a group's set is an expansion, by the labels that its signature counts.
use Rattle.std.proofs.Common.{◌≡◌, ℕ, ◌==◌, Some, None, sym, ap, ◌∙◌}
use Rattle.std.specs.Prelude.{nat_lt}
use Rattle.std.proofs.lemmas.Bool.{cond-true, eq-eqb}
use Rattle.dsec_spec.specs.Names.{Labels, rrsig_label_count}
use Rattle.dsec_spec.specs.Numbers.{RRSIG}
use Rattle.dsec_spec.specs.Records as records
use Rattle.dsec_spec.specs.Records.{Record, rrsig_of}
use Rattle.dsec_spec.specs.Groups.{Group}
use Rattle.dsec_spec.specs.Trying.{of_signature}
use Rattle.dsec_spec.specs.Answering.{is_expansion}
use Rattle.dsec_wire.specs.TypedData.{TypedData, data_of}
use Rattle.dsec_wire.specs.Views.{rrsig_in}
use Rattle.dsec_nodes.specs.Signing.{is_expanded}
use Rattle.dsec_denial.proofs.ExpansionLaws.{expansion_counts}

-- a signature that the record's data say
pub expanded_is : (group : Group) (r : Record) (d : TypedData) (sig : records.Rrsig) (owner : Labels) (counted : ℕ) → r.rtype ≡ RRSIG → d ≡ data_of r → Some sig ≡ rrsig_in d
    → owner ≡ group.owner → counted ≡ rrsig_label_count owner → nat_lt sig.labels counted ≡ is_expanded group r
expanded_is group r d sig owner counted typed of_it says at counts =
    let reads : rrsig_of r.rdata ≡ Some sig =
    sym (cond-true (r.rtype == RRSIG) (rrsig_of r.rdata) None (eq-eqb r.rtype RRSIG typed)) ∙ (sym (ap rrsig_in of_it) ∙ sym says) in
    ap (nat_lt sig.labels) (counts ∙ ap rrsig_label_count at)
    ∙ (sym (expansion_counts sig.labels group.owner) ∙ sym (ap (of_signature (λ (s : records.Rrsig). is_expansion s.labels group.owner)) reads))
