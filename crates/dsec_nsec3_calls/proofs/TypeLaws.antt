-- What is told of a type, case by case (RFC 5155 8.5, 8.6).
use Rattle.std.proofs.Common.{◌≡◌, ℕ, ◌==◌, true, false, Option, Some, None, sym, ap, ◌∙◌}
use Rattle.std.specs.Prelude.{if◌then◌else◌}
use Rattle.dsec_spec.specs.Names.{Place}
use Rattle.dsec_spec.specs.Numbers.{DS}
use Rattle.dsec_nsec3.specs.HashedAnswers.{Hashed, ds_by_walk}
use Rattle.dsec_nsec3.specs.Walks.{Walk}
use Rattle.dsec_nsec3_calls.specs.Tellings.{told_of, told_or}
use Rattle.dsec_nsec3_calls.specs.declared.told.Told.{Told}

module _ (n : Place) (q : ℕ) (later : Hashed ℕ) (w : Walk) (it : Told) where
  -- of another type than DS the walk tells nothing
  pub not_ds : (q == DS) ≡ false → it ≡ told_of later → it ≡ told_of (if q == DS then ds_by_walk n w later else later)
  not_ds e is = rw e is

  module _ (is_ds : (q == DS) ≡ true) (v : Walk) (same : v ≡ w) (told : Option Told) (tells : told_or told (told_of later) ≡ told_of (ds_by_walk n v later)) where
    by_walk : told_or told (told_of later) ≡ told_of (ds_by_walk n w later)
    by_walk = tells ∙ ap (λ (x : Walk). told_of (ds_by_walk n x later)) same

    pub walk_tells : told ≡ Some it → it ≡ told_of (if q == DS then ds_by_walk n w later else later)
    walk_tells e = rw is_ds (sym (ap (λ (x : Option Told). told_or x (told_of later)) e) ∙ by_walk)

    pub walk_leaves : told ≡ None → it ≡ told_of later → it ≡ told_of (if q == DS then ds_by_walk n w later else later)
    walk_leaves e is = rw is_ds (is ∙ (sym (ap (λ (x : Option Told). told_or x (told_of later)) e) ∙ by_walk))
