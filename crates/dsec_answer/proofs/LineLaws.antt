-- The lines of a judged group.
use Rattle.std.proofs.Common.{◌≡◌, List, [], ◌∷◌, ◌++◌, Some, None, refl, ap, ◌∙◌}
use Rattle.dsec_spec.specs.Chain.{Link}
use Rattle.dsec_nodes.specs.Judging.{Finding, is_shown, has_no_set, is_insecure, is_bogus, is_indeterminate}
use Rattle.dsec_found.specs.Told.{own_link, zone_links}
use Rattle.dsec_answer.specs.Texts.{links_in}

-- a shown group's links are its zone's and its own
pub shown_links : (f : Finding) (links : List Link) (last : Link) → zone_links f ≡ Some links → own_link f ≡ Some last → links_in f ≡ links ++ last ∷ []
shown_links (is_shown xs y signature) links last e h = let a : xs ≡ links = cc in let b : y ≡ last = cc in ap (λ zs. zs ++ y ∷ []) a ∙ ap (λ z. links ++ z ∷ []) b
shown_links has_no_set links last e h = absurd cc
shown_links (is_insecure cause signed) links last e h = absurd cc
shown_links (is_bogus cause xs) links last e h = absurd cc
shown_links is_indeterminate links last e h = absurd cc

-- without a link of its own it has none
pub no_own : (f : Finding) → own_link f ≡ None → links_in f ≡ []
no_own (is_shown xs y signature) h = absurd cc
no_own has_no_set h = refl
no_own (is_insecure cause signed) h = refl
no_own (is_bogus cause xs) h = refl
no_own is_indeterminate h = refl

-- nor without those of a zone
pub no_zone : (f : Finding) → zone_links f ≡ None → links_in f ≡ []
no_zone (is_shown xs y signature) h = absurd cc
no_zone has_no_set h = refl
no_zone (is_insecure cause signed) h = refl
no_zone (is_bogus cause xs) h = absurd cc
no_zone is_indeterminate h = refl
