-- Whether a judged group is bogus, by its state.
use Rattle.std.proofs.Common.{◌≡◌, true, false, refl}
use Rattle.dsec_group.specs.declared.state.ValidationState.TheVariants.{Bogus}
use Rattle.dsec_nodes.specs.Judging.{Finding, is_shown, has_no_set, is_insecure, is_bogus, is_indeterminate}
use Rattle.dsec_found.specs.Told.{state_of}
use Rattle.dsec_cut.specs.Ended.{is_found_bogus}

pub bogus_so : (f : Finding) → state_of f ≡ Bogus → is_found_bogus f ≡ true
bogus_so (is_bogus cause links) e = refl
bogus_so (is_shown links last signature) e = absurd cc
bogus_so has_no_set e = absurd cc
bogus_so (is_insecure cause signed) e = absurd cc
bogus_so is_indeterminate e = absurd cc

pub not_bogus_so : (f : Finding) → (state_of f ≡ Bogus → ⊥) → is_found_bogus f ≡ false
not_bogus_so (is_bogus cause links) h = absurd (h refl)
not_bogus_so (is_shown links last signature) h = refl
not_bogus_so has_no_set h = refl
not_bogus_so (is_insecure cause signed) h = refl
not_bogus_so is_indeterminate h = refl
