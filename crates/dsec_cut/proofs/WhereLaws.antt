-- What a test makes of the judged groups at an end.
use Rattle.std.proofs.Common.{◌≡◌, ℕ, zero, suc, ◌==◌, Bool, true, false, List, [], ◌∷◌, length, take, drop, Option, Some, None, refl, sym, ap, ◌∙◌}
use Rattle.std.specs.Prelude.{◌&&◌, if◌then◌else◌}
use Rattle.std.specs.List.{list_any}
use Rattle.std.proofs.Math.Bool.{not}
use Rattle.std.proofs.lemmas.Bool.{eqb-true}
use Rattle.std.proofs.lemmas.Option.{same_Some}
use Rattle.dsec_spec.specs.Groups.{Group}
use Rattle.dsec_nodes.specs.Judging.{Judged}
use Rattle.dsec_course.specs.Course.{Waiting, to_begin, to_end, for_walk, for_nothing, Course}
use Rattle.dsec_cut.specs.Ended.{Both, is_found_bogus, is_over, both_in, whole_where}
use Rattle.dsec_cut.proofs.WholeLaws.{IsWhole}

-- whether any of them is bogus
abbrev pub any_bogus : List Judged → Bool
any_bogus js = list_any (λ j. is_found_bogus j.finding) js

-- a test that says no where there is no group
abbrev pub SaysNoOfNone : (Both → Bool) → Type 0
SaysNoOfNone test = test ([], []) ≡ false

-- both sections' groups, where a test is true
abbrev pub where_so : Bool → Both → Option Both
where_so b both = if b then Some both else None

pub none_told : (left bogus told : Bool) (both : Both) → bogus ≡ true → where_so ((left && not bogus) && told) both ≡ None
none_told true true told both e = refl
none_told false true told both e = refl
none_told left false told both e = absurd cc

not_both : (a b : Bool) (both : Both) → b ≡ false → where_so (a && b) both ≡ None
not_both true false both e = refl
not_both false false both e = refl
not_both a true both e = absurd cc

abbrev apart : ℕ → List Judged → Both
apart n js = (take n js, drop n js)

abbrev nobody : Both
nobody = ([], [])

none_of : (js : List Judged) (n : ℕ) → js ≡ [] → apart n js ≡ nobody
none_of (j ∷ js) n e = absurd cc
none_of [] zero e = refl
none_of [] (suc n) e = refl

pub no_groups : (test : Both → Bool) → SaysNoOfNone test → (whole : Bool) (n : ℕ) (js : List Judged) → js ≡ []
    → where_so (whole && test (take n js, drop n js)) (take n js, drop n js) ≡ None
no_groups test says whole n js e =
    let both : Both = (take n js, drop n js) in
    not_both whole (test both) both (ap test (none_of js n e) ∙ says)

over_is : (x : Waiting) → is_over x ≡ true → x ≡ for_nothing
over_is to_begin e = absurd cc
over_is (to_end o) e = absurd cc
over_is (for_walk group s) e = absurd cc
over_is for_nothing e = refl

nothing_left : (groups : List Group) → length groups ≡ 0 → groups ≡ []
nothing_left [] e = refl
nothing_left (g ∷ gs) e = absurd cc

-- a test that said yes, where it says no of none, said it of all groups of the message, none of them bogus
pub whole_of : (test : Both → Bool) → SaysNoOfNone test → (c : Course) (both : Both) → whole_where test c ≡ Some both → IsWhole c × (both_in c ≡ both)
whole_of test says c both e = by (is_over c.waits) refl (length c.left == 0) refl (any_bogus c.judged) refl (test (both_in c)) refl e
  where
    by : (a : Bool) → is_over c.waits ≡ a → (l : Bool) → (length c.left == 0) ≡ l → (b : Bool) → any_bogus c.judged ≡ b → (t : Bool) → test (both_in c) ≡ t
        → where_so ((a && (l && not b)) && t) (both_in c) ≡ Some both → IsWhole c × (both_in c ≡ both)
    by true f true g false h true k x = (
      record {
        over = over_is c.waits f;
        none_left = nothing_left c.left (eqb-true (length c.left) 0 g);
        none_bogus = h;
        some = λ none. let no_one : true ≡ false = sym k ∙ (ap test (none_of c.judged c.answers none) ∙ says) in cc;
      },
      same_Some _ _ x,
    )
    by true f true g false h false k x = absurd cc
    by true f true g true h t k x = absurd cc
    by true f false g b h t k x = absurd cc
    by false f l g b h t k x = absurd cc
