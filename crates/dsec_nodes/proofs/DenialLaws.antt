-- What a denial uses is as it was judged: each group is shown, by the signer's zone, and its record is what it denies by.
use Rattle.std.proofs.Common.{◌≡◌, ℕ, ◌-◌, Bool, true, false, cond, List, ◌∷◌, [], ◌++◌, map, take, drop, reverse, length, Option, Some, None, refl, sym, ap, ◌∙◌, subst, inl, inr, arith}
use Rattle.std.specs.Prelude.{filter_map}
use Rattle.std.specs.List.{AllByRecursion, cons_option}
use Rattle.std.specs.Char.{to_ascii_lowercase}
use Rattle.std.proofs.lemmas.List.{length-map, length-reverse, map-append, reverse-append, take-append-drop}
use Rattle.std.proofs.lemmas.Bool.{true≢false, false≢true, and_parts, ltb-true, not-true}
use Rattle.dsec_spec.specs.Reading.{◌>>=◌}
use Rattle.dsec_spec.specs.Names.{Labels, Place, lower, place, IsAtOrBelow, IsStrictlyBelow}
use Rattle.dsec_spec.specs.Records.{Record, RecordSet, Rrsig, rrsig_of}
use Rattle.dsec_spec.specs.SignedBytes.{IsExpansion, rightmost, signed_owner}
use Rattle.dsec_spec.specs.Groups.{Group}
use Rattle.dsec_spec.specs.Chain.{Link}
use Rattle.dsec_spec.specs.Trying.{of_signature}
use Rattle.dsec_spec.specs.Answering.{is_expansion}
use Rattle.dsec_spec.specs.DenyingRecords.{NsecAt}
use Rattle.dsec_spec.specs.JudgedGroups.{encloser_in}
use Rattle.dsec_spec.proofs.AnsweringLemmas.{no_expansion}
use Rattle.dsec_spec.proofs.CanonicalNames.{same_place_decides}
use Rattle.dsec_spec.proofs.NamesBelow.{same_or_below}
use Rattle.dsec_spec.proofs.SignedBytesLaws.{length-rightmost}
use Rattle.dsec_spec.proofs.ReadingLemmas.{from_bind}
use Rattle.dsec_absence.specs.Denials.{Denial, no_type, no_name, no_type_by_wildcard, no_closer, used_in}
use Rattle.dsec_absence.specs.Evidence.{Evidence, Counts, CountsAt, AreReadOf, type_read, name_read, wildcard_read, closer_read}
use Rattle.dsec_nodes.specs.World.{World}
use Rattle.dsec_nodes.specs.Signing.{is_expanded}
use Rattle.dsec_nodes.specs.Judging.{Finding, is_shown, has_no_set, is_insecure, is_bogus, is_indeterminate, Judged}
use Rattle.dsec_nodes.specs.Outcomes.{Used}
use Rattle.dsec_nodes.specs.ByDenial.{is_secure, expands, evidence_of, used_at, used_by, encloser_of}
use Rattle.dsec_nodes.specs.SoundFindings.{Justifies, IsFound, IsShown, IsShownItself, IsShownFrom}
use Rattle.dsec_nodes.specs.SoundDenials.{IsUsed, AreUsed, type_used, name_used, wildcard_used, closer_used}
use Rattle.dsec_nodes.specs.SoundProofs.{Disproof, by_nsec, IsOfType, IsOfName, IsOfCloser}
use Rattle.dsec_nodes.proofs.Lists.{all_at, from_mapped_at}
use Rattle.dsec_nodes.proofs.Signs.{mapped_at}

-- the set of a shown group is no expansion, where the test of its signature says so
pub own_set : (group : Group) (signature : Record) (sig : Rrsig) → rrsig_of signature.rdata ≡ Some sig → is_expanded group signature ≡ false
    → IsExpansion sig.labels group.owner → ⊥
own_set group signature sig reads e =
    no_expansion sig.labels group.owner (sym (ap (of_signature (λ (s : Rrsig). is_expansion s.labels group.owner)) reads) ∙ e)

expansion_is : (labels : ℕ) (owner : Labels) → is_expansion labels owner ≡ true → IsExpansion labels owner
expansion_is labels owner e = let both = and_parts _ _ e in record {
  fewer = ltb-true _ _ both.0;
  elsewhere = λ same. true≢false (sym ((same_place_decides (place owner) (place (signed_owner labels owner))).1 same) ∙ not-true _ both.1);
}

-- a group that is found to be shown is
abbrev pub shown_group : (w : World) (j : Judged) → IsFound w j → (links : List Link) (last : Link) (signature : Record)
    → j.finding ≡ is_shown links last signature → IsShown w j
shown_group w j its links last signature f = record { links = links; last = last; signature = signature; found = f; set = subst (Justifies w j) f its }

-- and at or below the zone that has signed it
pub under_signer : (w : World) (j : Judged) → IsShown w j → IsAtOrBelow (place j.group.owner) j.signer
under_signer w j is =
    let h = is.set.holds in
    subst (IsAtOrBelow (place j.group.owner)) is.set.zone_is (subst (λ (s : RecordSet). IsAtOrBelow (place s.owner) h.zone) h.same h.shows.within)

-- it is no expansion of a wildcard, where no encloser is told
pub shown_itself : (w : World) (j : Judged) → IsFound w j → (links : List Link) (last : Link) (signature : Record)
    → j.finding ≡ is_shown links last signature → encloser_of j.group signature ≡ None → IsShownItself w j
shown_itself w j its links last signature f e = record {
  shown = shown_group w j its links last signature f;
  no_expansion = λ rrsig reads. no_expansion rrsig.labels j.group.owner (by rrsig (is_expansion rrsig.labels j.group.owner)
      (sym (ap (λ (o : Option Rrsig). o >>= λ sig. encloser_in sig.labels j.group.owner) reads) ∙ e));
}
  where
    by : (rrsig : Rrsig) (b : Bool) → cond b (Some (rightmost rrsig.labels j.group.owner)) None ≡ None → b ≡ false
    by rrsig true g = absurd cc
    by rrsig false g = refl

-- and an expansion of the wildcard under the encloser that is told
pub shown_from : (w : World) (j : Judged) → IsFound w j → (links : List Link) (last : Link) (signature : Record)
    → j.finding ≡ is_shown links last signature → (encloser : Labels) → encloser_of j.group signature ≡ Some encloser
    → IsShownFrom w j (place encloser)
shown_from w j its links last signature f encloser e =
    let read = from_bind (rrsig_of signature.rdata) (λ (sig : Rrsig). encloser_in sig.labels j.group.owner) encloser e in
    let both = by read.0 (is_expansion read.0.labels j.group.owner) read.2 in
    record {
      shown = shown_group w j its links last signature f;
      rrsig = read.0;
      reads = read.1;
      expansion = expansion_is read.0.labels j.group.owner both.0;
      under = ap place (sym both.1);
    }
  where
    by : (rrsig : Rrsig) (b : Bool) → cond b (Some (rightmost rrsig.labels j.group.owner)) None ≡ Some encloser
        → (b ≡ true) × (rightmost rrsig.labels j.group.owner ≡ encloser)
    by rrsig true g = (refl, cc)
    by rrsig false g = absurd cc

-- an expansion of the wildcard under a name is under that name
pub expanded_under : (w : World) (j : Judged) (encloser : Place) → IsShownFrom w j encloser → IsStrictlyBelow (place j.group.owner) encloser
expanded_under w j encloser s =
    elim (same_or_below (place j.group.owner) encloser below) [
      | inr strictly ↦ strictly
      | inl same ↦ absurd (
          let fewer = s.expansion.fewer in
          let e = ap length same in
          let f = ap length s.under in
          omega (arith, e, f, fewer, size j.group.owner, size (drop k j.group.owner), length-rightmost s.rrsig.labels j.group.owner (omega (arith, fewer)))
          )
    ]
  where
    k : ℕ
    k = length j.group.owner - s.rrsig.labels

    size : (name : Labels) → length (place name) ≡ length name
    size name = length-reverse (lower name) ∙ length-map name (map to_ascii_lowercase)

    below : IsAtOrBelow (place j.group.owner) encloser
    below = record {
      under = reverse (lower (take k j.group.owner));
      is =
          ap place (sym (take-append-drop k j.group.owner))
          ∙ (ap reverse (map-append (map to_ascii_lowercase) (take k j.group.owner) (drop k j.group.owner))
          ∙ (reverse-append (lower (take k j.group.owner)) (lower (drop k j.group.owner))
          ∙ ap (λ (x : Place). x ++ reverse (lower (take k j.group.owner))) (sym s.under)));
    }

-- a group that counts is shown, and no expansion
pub evidence_shown : (w : World) (j : Judged) → IsFound w j → is_secure j.finding ≡ true → expands j.group j.finding ≡ false → IsShownItself w j
evidence_shown w j its secure e = by j.finding refl secure
  where
    by : (f : Finding) → j.finding ≡ f → is_secure f ≡ true → IsShownItself w j
    by (is_shown links last signature) f s = record {
      shown = shown_group w j its links last signature f;
      no_expansion = λ rrsig reads. own_set j.group signature rrsig reads (sym (ap (expands j.group) f) ∙ e);
    }
    by has_no_set f s = absurd (false≢true s)
    by (is_insecure cause signed) f s = absurd (false≢true s)
    by (is_bogus cause links) f s = absurd (false≢true s)
    by is_indeterminate f s = absurd (false≢true s)

-- both deny the same kind of thing, of a closer name under the same one
pub record IsOfKind (d : Disproof ℕ) (disproof : Disproof Used) : Type 0 where
  pub of_type : IsOfType d → IsOfType disproof
  pub of_name : IsOfName d → IsOfName disproof
  pub of_closer : (c : Place) → IsOfCloser c d → IsOfCloser c disproof

-- what fills a place, by its index, as its record
record UsedAt (w : World) (js : List Judged) (class : ℕ) (signer : Place) (index : ℕ) (r : NsecAt) : Type 0 where
  its : Used
  found : used_at js index ≡ Some its
  used : IsUsed w (map (λ (j : Judged). j.group) js) class signer its r

used_at_is : (w : World) (js : List Judged) (class : ℕ) (signer : Place) (index : ℕ) (r : NsecAt) → AllByRecursion (IsFound w) js
    → CountsAt class signer (map evidence_of js) index r → UsedAt w js class signer index r
used_at_is w js class signer index r founds at =
    let from = from_mapped_at evidence_of js index at.evidence at.stands in
    let j : Judged = from.0 in
    let counts : Counts class signer (evidence_of j) r = subst (λ (x : Evidence). Counts class signer x r) (sym from.2) at.counts in
    record {
      its = record { index = index; judged = j };
      found = ap (λ (o : Option Judged). o >>= λ x. Some (record { index = index; judged = x })) from.1;
      used = record {
        stands = mapped_at (λ (x : Judged). x.group) js index j from.1;
        counts = counts;
        itself = evidence_shown w j (all_at (IsFound w) js index j founds from.1) counts.secure counts.no_expansion;
      };
    }

-- what fills the places of a denial, by their indexes, as their records
pub record AreUsedBy (w : World) (js : List Judged) (class : ℕ) (signer : Place) (d : Denial ℕ) (r : Denial NsecAt) : Type 0 where
  pub denial : Denial Used
  pub same_kind : IsOfKind (by_nsec d) (by_nsec denial)
  pub found : used_by js d ≡ used_in denial
  pub used : AreUsed w (map (λ (j : Judged). j.group) js) class signer denial r

pub one_found : (js : List Judged) (i : ℕ) (u : Used) → used_at js i ≡ Some u → filter_map (used_at js) (i ∷ []) ≡ u ∷ []
one_found js i u e = ap (λ (o : Option Used). cons_option o []) e

pub two_found : (js : List Judged) (i k : ℕ) (u v : Used) → used_at js i ≡ Some u → used_at js k ≡ Some v
    → filter_map (used_at js) (i ∷ k ∷ []) ≡ u ∷ v ∷ []
two_found js i k u v e f =
    ap (λ (o : Option Used). cons_option o (filter_map (used_at js) (k ∷ []))) e ∙ ap (λ (us : List Used). u ∷ us) (one_found js k v f)

pub used_are : (w : World) (js : List Judged) (class : ℕ) (signer : Place) (d : Denial ℕ) (r : Denial NsecAt) → AllByRecursion (IsFound w) js
    → AreReadOf class signer (map evidence_of js) d r → AreUsedBy w js class signer d r
used_are w js class signer d r founds (type_read {i = i} {r = s} one) =
    let u = used_at_is w js class signer i s founds one in
    record { denial = no_type u.its; same_kind = record { of_type = λ h. h; of_name = λ h. h; of_closer = λ _ h. h }; found = one_found js i u.its u.found; used = type_used u.used }
used_are w js class signer d r founds (closer_read {c = c} {i = i} {r = s} one) =
    let u = used_at_is w js class signer i s founds one in
    record { denial = no_closer c u.its; same_kind = record { of_type = λ h. h; of_name = λ h. h; of_closer = λ _ h. h }; found = one_found js i u.its u.found; used = closer_used u.used }
used_are w js class signer d r founds (name_read {c = c} {i = i} {j = k} {r = s} {w = t} one other) =
    let u = used_at_is w js class signer i s founds one in
    let v = used_at_is w js class signer k t founds other in
    record {
      denial = no_name c u.its v.its;
      same_kind = record { of_type = λ h. h; of_name = λ h. h; of_closer = λ _ h. h };
      found = two_found js i k u.its v.its u.found v.found;
      used = name_used u.used v.used;
    }
used_are w js class signer d r founds (wildcard_read {c = c} {i = i} {j = k} {r = s} {w = t} one other) =
    let u = used_at_is w js class signer i s founds one in
    let v = used_at_is w js class signer k t founds other in
    record {
      denial = no_type_by_wildcard c u.its v.its;
      same_kind = record { of_type = λ h. h; of_name = λ h. h; of_closer = λ _ h. h };
      found = two_found js i k u.its v.its u.found v.found;
      used = wildcard_used u.used v.used;
    }
