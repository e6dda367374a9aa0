-- Records are of one class where none has another than the first.
use Rattle.std.proofs.Common.{◌≡◌, ◌↔◌, ◌==◌, ℕ, zero, suc, ◌<◌, Bool, true, false, List, [], ◌∷◌, length, get_or, refl, sym, ap, ◌∙◌, arith, eqb-true, eq-eqb}
use Rattle.std.specs.Prelude.{IsTrue}
use Rattle.std.specs.List.{list_any}
use Rattle.std.proofs.Math.Bool.{not}
use Rattle.std.proofs.lemmas.Bool.{true≢false}
use Rattle.std.proofs.lemmas.List.{get_or_default}
use Rattle.dsec_spec.specs.Records.{Record}
use Rattle.dsec_spec.specs.CanonicalRecords.{AreOfOneClass}
use Rattle.dsec_spec.proofs.Members.{none_passes, some_passes}
use Rattle.dsec_sorted.proofs.OwnerRuns.{not_true, not_false}

-- whether a record has another class than the first
abbrev other : Record → Record → Bool
other first r = not (r.class == first.class)

none_other : (first : Record) (others : List Record) → list_any (other first) others ≡ false → (k : ℕ) (d : Record) → k < length (first ∷ others) → (get_or (first ∷ others) k d).class ≡ first.class
none_other first others h zero d lt = refl
none_other first others h (suc k) d lt =
    let r = get_or others k d in
    eqb-true r.class first.class (not_false (r.class == first.class) (none_passes (other first) others h r (k, omega arith, get_or_default others k r d (omega arith))))

pub one_class : (first : Record) (others : List Record) → IsTrue (not (list_any (other first) others)) ↔ AreOfOneClass (first ∷ others)
one_class first others = (there, back)
  where
    there : not (list_any (other first) others) ≡ true → AreOfOneClass (first ∷ others)
    there h i j d lt lj =
        let none = not_true (list_any (other first) others) h in
        none_other first others none i d (omega arith) ∙ sym (none_other first others none j d lj)

    back : AreOfOneClass (first ∷ others) → not (list_any (other first) others) ≡ true
    back one = by (list_any (other first) others) refl
      where
        by : (b : Bool) → list_any (other first) others ≡ b → not b ≡ true
        by false e = refl
        by true e =
            let f = some_passes (other first) others e in
            let same : first.class ≡ (get_or others f.1.0 f.0).class = one 0 (suc f.1.0) f.0 (omega arith) (let below = f.1.1 in omega arith) in
            let at : f.0.class ≡ first.class = sym (same ∙ ap (λ (r : Record). r.class) f.1.2) in
            absurd (true≢false (sym f.2 ∙ ap not (eq-eqb f.0.class first.class at)))

pub no_record : AreOfOneClass []
no_record i j d lt lj = absurd (omega arith)
