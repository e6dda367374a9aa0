-- Whether an alias at a name for whose DS set is asked is of the zone that begins there: the test is the fact.
use Rattle.std.proofs.Common.{◌≡◌, ◌&&◌, ◌==◌, Bool, true, false, refl, sym, ap, ◌∙◌, inl, inr}
use Rattle.std.specs.Prelude.{◌⊎◌}
use Rattle.std.proofs.lemmas.Bool.{eq-eqb, eqb-true, true≢false}
use Rattle.dsec_spec.specs.Names.{Labels, place, same_place}
use Rattle.dsec_spec.specs.Numbers.{DS}
use Rattle.dsec_spec.proofs.CanonicalNames.{same_place_decides}
use Rattle.dsec_alias.specs.States.{State, secure, insecure, bogus, indeterminate}
use Rattle.dsec_alias.specs.Candidates.{Candidate, Reply}
use Rattle.dsec_alias.specs.Following.{is_known, is_of_child}
use Rattle.dsec_alias.specs.Paths.{IsOfChild}

both_true : (a b c : Bool) → (a && b && c) ≡ true → (a ≡ true) × (b ≡ true) × (c ≡ true)
both_true true true true e = (refl, refl, refl)
both_true true true false e = absurd (true≢false (sym e))
both_true true false c e = absurd (true≢false (sym e))
both_true false b c e = absurd (true≢false (sym e))

all_true : (a b c : Bool) → a ≡ true → b ≡ true → c ≡ true → (a && b && c) ≡ true
all_true true true true e f g = refl
all_true true true false e f g = g
all_true true false c e f g = f
all_true false b c e f g = e

known_is : (s : State) → is_known s ≡ true → (s ≡ secure) ⊎ (s ≡ insecure)
known_is secure e = inl refl
known_is insecure e = inr refl
known_is bogus e = absurd (true≢false (sym e))
known_is indeterminate e = absurd (true≢false (sym e))

known_told : (s : State) → (s ≡ secure) ⊎ (s ≡ insecure) → is_known s ≡ true
known_told s (inl e) = ap is_known e
known_told s (inr e) = ap is_known e

module _ {D : Type 0} (reply : Reply D) (name : Labels) (c : Candidate) where
  pub child_is : is_of_child reply name c ≡ true → IsOfChild reply name c
  child_is e =
      let parts = both_true (reply.rtype == DS) (same_place c.signer (place name)) (is_known c.state) e in
      record {
        for_ds = eqb-true reply.rtype DS parts.0;
        own_zone = (same_place_decides c.signer (place name)).0 parts.1;
        known = known_is c.state parts.2;
      }

  pub child_told : IsOfChild reply name c → is_of_child reply name c ≡ true
  child_told h =
      all_true (reply.rtype == DS) (same_place c.signer (place name)) (is_known c.state) (eq-eqb reply.rtype DS h.for_ds)
      ((same_place_decides c.signer (place name)).1 h.own_zone) (known_told c.state h.known)

  -- where it isn't, the test says so
  pub other_told : (IsOfChild reply name c → ⊥) → is_of_child reply name c ≡ false
  other_told other = by (is_of_child reply name c) refl
    where
      by : (b : Bool) → is_of_child reply name c ≡ b → is_of_child reply name c ≡ false
      by true e = absurd (other (child_is e))
      by false e = e

  pub not_child : is_of_child reply name c ≡ false → IsOfChild reply name c → ⊥
  not_child e h = true≢false (sym (child_told h) ∙ e)
