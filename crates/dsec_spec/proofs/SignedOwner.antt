-- A signature that counts its owner's labels as it should is over the owner's own name.
use Rattle.std.proofs.Common.{◌≡◌, ℕ, suc, ◌+◌, ◌-◌, Bool, true, false, List, [], ◌∷◌, length, refl, sym, ap, arith}
use Rattle.std.specs.Str.{bytes_eq}
use Rattle.std.proofs.lemmas.Bool.{lt-ltb, le-ltb}
use Rattle.std.proofs.lemmas.Slice.Eq.{bytes_eq-Decides}
use Rattle.dsec_spec.specs.Names.{Labels, asterisk, rrsig_label_count}
use Rattle.dsec_spec.specs.SignedBytes.{signed_owner}

-- the owner is signed as it is, also where it begins with an asterisk
pub own_signed_owner : (owner : Labels) → signed_owner (rrsig_label_count owner) owner ≡ owner
own_signed_owner [] = refl
own_signed_owner (label ∷ name) = by (bytes_eq label asterisk) refl
  where
    one_more : (n : ℕ) → suc n - n ≡ 1
    one_more n = omega arith

    by : (b : Bool) → bytes_eq label asterisk ≡ b → signed_owner (rrsig_label_count (label ∷ name)) (label ∷ name) ≡ label ∷ name
    by true e =
        let star : label ≡ asterisk = (bytes_eq-Decides label asterisk).0 e in
        rw (e, lt-ltb (length name) (suc (length name)) (omega arith), one_more (length name)) (ap (λ (l : List ℕ). l ∷ name) (sym star))
    by false e = rw (e, le-ltb (length name + 1) (suc (length name)) (omega arith)) refl
