-- The lines of the groups that denials use.
use Rattle.std.proofs.Common.{◌≡◌, ◌<◌, ◌≤◌, ℕ, ◌+◌, List, [], ◌∷◌, ◌++◌, length, get_or, take, drop, Some, None, refl, sym, ap, ◌∙◌, append_assoc, append-nil, length-append, arith}
use Rattle.std.proofs.lemmas.List.{drop_all, drop_more, take_more}
use Rattle.std.specs.List.{flat_map}
use Rattle.dsec_spec.specs.Chain.{Link}
use Rattle.dsec_link.specs.LinkTexts.{link_head, link_line}
use Rattle.dsec_nodes.specs.Judging.{Finding, is_shown, has_no_set, is_insecure, is_bogus, is_indeterminate}
use Rattle.dsec_nodes.specs.Outcomes.{Used}
use Rattle.dsec_found.specs.Told.{own_link, zone_links}
use Rattle.dsec_answer.specs.Texts.{first_lines, used_groups_lines, used_line, used_lines}

-- the lines of a shown group are its zone's links', and its own
pub shown_lines : (index : ℕ) (f : Finding) (links : List Link) (last : Link) → zone_links f ≡ Some links → own_link f ≡ Some last
    → used_lines index f ≡ flat_map (λ link. link_line index link) links ++ used_line index last
shown_lines index (is_shown xs y signature) links last e h =
    let a : xs ≡ links = cc in
    let b : y ≡ last = cc in
    ap (λ (zs : List Link). flat_map (λ link. link_line index link) zs ++ used_line index y) a ∙ ap (λ (z : Link). flat_map (λ link. link_line index link) links ++ used_line index z) b
shown_lines index has_no_set links last e h = absurd cc
shown_lines index (is_insecure cause signed) links last e h = absurd cc
shown_lines index (is_bogus cause xs) links last e h = absurd cc
shown_lines index is_indeterminate links last e h = absurd cc

-- without a link of its own it has none
pub no_own_lines : (index : ℕ) (f : Finding) → own_link f ≡ None → used_lines index f ≡ []
no_own_lines index (is_shown xs y signature) h = absurd cc
no_own_lines index has_no_set h = refl
no_own_lines index (is_insecure cause signed) h = refl
no_own_lines index (is_bogus cause xs) h = refl
no_own_lines index is_indeterminate h = refl

-- nor without those of a zone
pub no_zone_lines : (index : ℕ) (f : Finding) → zone_links f ≡ None → used_lines index f ≡ []
no_zone_lines index (is_shown xs y signature) h = absurd cc
no_zone_lines index has_no_set h = refl
no_zone_lines index (is_insecure cause signed) h = refl
no_zone_lines index (is_bogus cause xs) h = absurd cc
no_zone_lines index is_indeterminate h = refl

-- a link's line has a first word
pub line_has_word : (line text before : List ℕ) (index : ℕ) (link : Link) → line ≡ text → text ≡ before ++ link_line index link → 4 ≤ length line
unfolding link_head
line_has_word line text before index link e f =
    let whole : length line ≡ length before + length (link_line index link) = ap length (e ∙ f) ∙ length-append before (link_line index link) in
    omega (arith, whole)

-- the lines from a group on: its own, unless it was used before, and those of the others
pub used_here : (index : ℕ) (used : List Used) (i : ℕ) (u : Used) → i < length used → u ≡ get_or used i u
    → used_groups_lines index (take i used) (drop i used) ≡ first_lines index (take i used) u ++ used_groups_lines index (take (i + 1) used) (drop (i + 1) used)
unfolding used_groups_lines
used_here index used i u below is =
    ap (used_groups_lines index (take i used)) (drop_more used i u below ∙ ap (λ (x : Used). x ∷ drop (i + 1) used) (sym is))
    ∙ ap (λ (before : List Used). first_lines index (take i used) u ++ used_groups_lines index before (drop (i + 1) used))
    (sym (take_more used i u below ∙ ap (λ (x : Used). take i used ++ x ∷ []) (sym is)))

-- what went out goes on by a group's lines
pub lines_go_on : (out new : List ℕ) (index : ℕ) (used : List Used) (i : ℕ) (u : Used) (all : List ℕ) → i < length used → u ≡ get_or used i u
    → out ++ used_groups_lines index (take i used) (drop i used) ≡ all → new ≡ out ++ first_lines index (take i used) u
    → new ++ used_groups_lines index (take (i + 1) used) (drop (i + 1) used) ≡ all
lines_go_on out new index used i u all below is so_far is_new =
    let rest = used_groups_lines index (take (i + 1) used) (drop (i + 1) used) in
    ap (λ (o : List ℕ). o ++ rest) is_new
    ∙ (append_assoc out (first_lines index (take i used) u) rest
    ∙ (sym (ap (λ (ls : List ℕ). out ++ ls) (used_here index used i u below is)) ∙ so_far))

-- at the end nothing is left
pub lines_end : (out : List ℕ) (index : ℕ) (used : List Used) (i : ℕ) (all : List ℕ) → length used ≤ i
    → out ++ used_groups_lines index (take i used) (drop i used) ≡ all → out ≡ all
unfolding used_groups_lines
lines_end out index used i all past so_far =
    sym (ap (λ (us : List Used). out ++ used_groups_lines index (take i used) us) (drop_all i used past) ∙ append-nil out) ∙ so_far
