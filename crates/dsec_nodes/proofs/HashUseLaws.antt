-- What a denial by NSEC3 records uses, and what leaves something open, is as it was judged: each group is shown, by the signer's zone.
use Rattle.std.proofs.Common.{◌≡◌, ℕ, true, false, List, ◌∷◌, [], map, Option, Some, None, sym, ap, ◌∙◌, subst}
use Rattle.std.specs.Prelude.{filter_map, slice_get}
use Rattle.std.specs.List.{AllByRecursion, cons_option}
use Rattle.dsec_spec.specs.Reading.{◌>>=◌}
use Rattle.dsec_spec.specs.Names.{Place, place, IsAtOrBelow}
use Rattle.dsec_spec.specs.Messages.{Question}
use Rattle.dsec_spec.specs.DenyingRecords.{Nsec3At}
use Rattle.dsec_absence.specs.Evidence.{Evidence}
use Rattle.dsec_nsec3.specs.Counting.{Counts, CountsAt}
use Rattle.dsec_nsec3.specs.HashedDenials.{HashedDenial, type_gone, name_gone, wildcard_type_gone, closer_gone, hashed_used_in}
use Rattle.dsec_nsec3.specs.HashedProofs.{is_empty, is_read, AreHashedReadOf, type_read, name_read, wildcard_read, closer_read}
use Rattle.dsec_nsec3.specs.Openings.{Opening, opening_index, Opens, iterates, opts_out_of, OpensTold, OpensAt}
use Rattle.dsec_nodes.specs.World.{World, limits_of}
use Rattle.dsec_nodes.specs.Causes.{Cause}
use Rattle.dsec_nodes.specs.Judging.{Judged}
use Rattle.dsec_nodes.specs.Outcomes.{Used}
use Rattle.dsec_nodes.specs.ByDenial.{evidence_of, used_at, used_by_hash, used_to_open}
use Rattle.dsec_nodes.specs.SoundFindings.{IsFound}
use Rattle.dsec_nodes.specs.SoundHashes.{IsHashUsed, is_left_empty, is_used, AreHashUsed, hash_type_used, hash_name_used, hash_wildcard_used, hash_closer_used, IsLeftOpenBy}
use Rattle.dsec_nodes.specs.SoundProofs.{by_nsec3}
use Rattle.dsec_nodes.proofs.Lists.{all_at, from_mapped_at}
use Rattle.dsec_nodes.proofs.Signs.{mapped_at}
use Rattle.dsec_nodes.proofs.DenialLaws.{evidence_shown, IsOfKind, one_found, two_found}

module _ (w : World) (js : List Judged) (class : ℕ) (signer : Place) (founds : AllByRecursion (IsFound w) js) where
  -- the judged group at an index, which is what was found of it
  record JudgedAt (index : ℕ) (e : Evidence) : Type 0 where
    judged : Judged
    is : evidence_of judged ≡ e
    found : used_at js index ≡ Some (record { index = index; judged = judged })
    stands : slice_get (map (λ (j : Judged). j.group) js) index ≡ Some judged.group
    so : IsFound w judged

  judged_at : (index : ℕ) (e : Evidence) → slice_get (map evidence_of js) index ≡ Some e → JudgedAt index e
  judged_at index e stands =
      let from = from_mapped_at evidence_of js index e stands in
      record {
        judged = from.0;
        is = from.2;
        found = ap (λ (o : Option Judged). o >>= λ x. Some (record { index = index; judged = x })) from.1;
        stands = mapped_at (λ (x : Judged). x.group) js index from.0 from.1;
        so = all_at (IsFound w) js index from.0 founds from.1;
      }

  -- what fills a place, by its index, as its record
  record HashUsedAt (index : ℕ) (r : Nsec3At) : Type 0 where
    its : Used
    found : used_at js index ≡ Some its
    used : IsHashUsed w (map (λ (j : Judged). j.group) js) class signer its r

  hash_used_at : (index : ℕ) (r : Nsec3At) → CountsAt (limits_of w.bounds) class signer (map evidence_of js) index r → HashUsedAt index r
  hash_used_at index r at =
      let x = judged_at index at.evidence at.stands in
      let counts : Counts (limits_of w.bounds) class signer (evidence_of x.judged) r = subst (λ (y : Evidence). Counts (limits_of w.bounds) class signer y r) (sym x.is) at.counts in
      record {
        its = record { index = index; judged = x.judged };
        found = x.found;
        used = record { stands = x.stands; counts = counts; itself = evidence_shown w x.judged x.so counts.is_nsec3.secure counts.is_nsec3.no_expansion };
      }

  -- what fills the places of a denial, by their indexes, as their records
  pub record AreHashUsedBy (d : HashedDenial ℕ) (r : HashedDenial Nsec3At) : Type 0 where
    pub denial : HashedDenial Used
    pub same_kind : IsOfKind (by_nsec3 d) (by_nsec3 denial)
    pub found : used_by_hash js d ≡ hashed_used_in denial
    pub used : AreHashUsed w (map (λ (j : Judged). j.group) js) class signer denial r

  three_found : (i k m : ℕ) (u v x : Used) → used_at js i ≡ Some u → used_at js k ≡ Some v → used_at js m ≡ Some x
      → filter_map (used_at js) (i ∷ k ∷ m ∷ []) ≡ u ∷ v ∷ x ∷ []
  three_found i k m u v x e f g =
      ap (λ (o : Option Used). cons_option o (filter_map (used_at js) (k ∷ m ∷ []))) e ∙ ap (λ (us : List Used). u ∷ us) (two_found js k m v x f g)

  pub hash_used_are : (d : HashedDenial ℕ) (r : HashedDenial Nsec3At) → AreHashedReadOf (limits_of w.bounds) class signer (map evidence_of js) d r → AreHashUsedBy d r
  hash_used_are d r (type_read {i = i} {r = s} one) =
      let u = hash_used_at i s one in
      record {
        denial = type_gone u.its;
        same_kind = record { of_type = λ h. h; of_name = λ h. h; of_closer = λ _ h. h };
        found = one_found js i u.its u.found;
        used = hash_type_used u.used;
      }
  hash_used_are d r (closer_read {c = c} {i = i} {r = s} one) =
      let u = hash_used_at i s one in
      record {
        denial = closer_gone c u.its;
        same_kind = record { of_type = λ h. h; of_name = λ h. h; of_closer = λ _ h. h };
        found = one_found js i u.its u.found;
        used = hash_closer_used u.used;
      }
  hash_used_are d r (name_read {c = c} {i = i} {j = k} {r = s} {w = t} is_empty one other) =
      let u = hash_used_at i s one in
      let v = hash_used_at k t other in
      record {
        denial = name_gone c None u.its v.its;
        same_kind = record { of_type = λ h. h; of_name = λ h. h; of_closer = λ _ h. h };
        found = two_found js i k u.its v.its u.found v.found;
        used = hash_name_used is_left_empty u.used v.used;
      }
  hash_used_are d r (name_read {c = c} {i = i} {j = k} {r = s} {w = t} (is_read {i = m} {r = a} there) one other) =
      let x = hash_used_at m a there in
      let u = hash_used_at i s one in
      let v = hash_used_at k t other in
      record {
        denial = name_gone c (Some x.its) u.its v.its;
        same_kind = record { of_type = λ h. h; of_name = λ h. h; of_closer = λ _ h. h };
        found = three_found m i k x.its u.its v.its x.found u.found v.found;
        used = hash_name_used (is_used x.used) u.used v.used;
      }
  hash_used_are d r (wildcard_read {c = c} {i = i} {j = k} {r = s} {w = t} is_empty one other) =
      let u = hash_used_at i s one in
      let v = hash_used_at k t other in
      record {
        denial = wildcard_type_gone c None u.its v.its;
        same_kind = record { of_type = λ h. h; of_name = λ h. h; of_closer = λ _ h. h };
        found = two_found js i k u.its v.its u.found v.found;
        used = hash_wildcard_used is_left_empty u.used v.used;
      }
  hash_used_are d r (wildcard_read {c = c} {i = i} {j = k} {r = s} {w = t} (is_read {i = m} {r = a} there) one other) =
      let x = hash_used_at m a there in
      let u = hash_used_at i s one in
      let v = hash_used_at k t other in
      record {
        denial = wildcard_type_gone c (Some x.its) u.its v.its;
        same_kind = record { of_type = λ h. h; of_name = λ h. h; of_closer = λ _ h. h };
        found = three_found m i k x.its u.its v.its x.found u.found v.found;
        used = hash_wildcard_used (is_used x.used) u.used v.used;
      }

  -- a group that leaves something open is Secure, and no expansion
  opening_counts : (n : Place) (e : Evidence) → Opens (limits_of w.bounds) class signer n e → (e.is_secure ≡ true) × (e.is_expanded ≡ false)
  opening_counts n e (iterates is many few) = (is.secure, is.no_expansion)
  opening_counts n e (opts_out_of counts flag covers may leaves) = (counts.is_nsec3.secure, counts.is_nsec3.no_expansion)

  -- the group that leaves something open, by its index
  pub record IsOpenAt (question : Question) (cause : Option Cause) (o : Opening) : Type 0 where
    pub its : Used
    pub found : used_to_open js o ≡ its ∷ []
    pub left_open : IsLeftOpenBy w (map (λ (j : Judged). j.group) js) question signer its cause

  pub open_is : (question : Question) (cause : Option Cause) (o : Opening) → question.class ≡ class → IsAtOrBelow (place question.name) signer
      → OpensAt (limits_of w.bounds) class signer (map evidence_of js) (place question.name) cause (opening_index o) → IsOpenAt question cause o
  open_is question cause o of_class within at =
      let x = judged_at (opening_index o) at.evidence at.stands in
      let opens = subst (λ (y : Evidence). OpensTold (limits_of w.bounds) class signer cause (place question.name) y) (sym x.is) at.opens in
      let both = opening_counts (place question.name) (evidence_of x.judged) opens.0 in
      record {
        its = record { index = opening_index o; judged = x.judged };
        found = one_found js (opening_index o) (record { index = opening_index o; judged = x.judged }) x.found;
        left_open = record {
          within = within;
          stands = x.stands;
          opens = subst (λ (c : ℕ). OpensTold (limits_of w.bounds) c signer cause (place question.name) (evidence_of x.judged)) (sym of_class) opens;
          itself = evidence_shown w x.judged x.so both.0 both.1;
        };
      }
