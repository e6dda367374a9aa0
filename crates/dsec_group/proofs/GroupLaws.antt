-- The groups of a section, with one more record at its end.
use Rattle.std.proofs.Common.{◌≡◌, ◌+◌, ◌≤◌, nat_lt, Bool, true, false, ◌||◌, cond, List, [], ◌∷◌, ◌++◌, map, length, refl, sym, ap, subst, ◌∙◌, arith, append-nil}
use Rattle.std.proofs.Math.Bool.{not}
use Rattle.std.specs.List.{filter, list_any}
use Rattle.std.proofs.lemmas.Bool.{lt-ltb, ltb-true, ltb-false, le-ltb}
use Rattle.std.proofs.lemmas.List.{length-append, map-append}
use Rattle.std.proofs.lemmas.List.Elements.{filter-append}
use Rattle.dsec_spec.specs.Records.{Record}
use Rattle.dsec_spec.specs.Groups.{Group, is_signature, of_one_group, are_duplicates, firsts, plain_records, group_of, groups_of}
use Rattle.dsec_group.specs.Adding.{canonical_of, has_data, with_record, group_from, belongs_to, new_group, put_in, placed}
use Rattle.dsec_group.proofs.FirstLaws.{Each, each_filter, each_kept, each_always, each_so, each_append, each_firsts, turned, any_firsts, firsts_more, none_alike, ComesFirst, firsts_come_first, Apart, firsts_apart}
use Rattle.dsec_group.proofs.MemberLaws.{group_itself, group_agree, same_itself, same_agree, Leads, led_is, leads_all, belongs_is, has_is, each_signed, each_plain}

pub groups_of_none : groups_of [] ≡ []
unfolding firsts
groups_of_none = refl

-- one more record, where it isn't a duplicate
abbrev pub last : Bool → Record → List Record
last d r = cond d [] (r ∷ [])

fewer_step : {A : Type 0} (b : Bool) (x : A) (xs ys : List A) → length ys ≤ length xs → length (cond b (x ∷ ys) ys) ≤ length (x ∷ xs)
fewer_step true x xs ys h = omega (arith, h)
fewer_step false x xs ys h = omega (arith, h)

filter_fewer : {A : Type 0} (p : A → Bool) (xs : List A) → length (filter p xs) ≤ length xs
filter_fewer p [] = omega arith
filter_fewer p (x ∷ xs) = fewer_step (p x) x xs (filter p xs) (filter_fewer p xs)

firsts_fewer : {A : Type 0} (alike : A → A → Bool) (xs : List A) → length (firsts alike xs) ≤ length xs
unfolding firsts
firsts_fewer alike [] = omega arith
firsts_fewer alike (x ∷ xs) =
    let h = firsts_fewer alike xs in
    let k = filter_fewer (λ y. not (alike x y)) (firsts alike xs) in
    omega (arith, h, k)

or_true : (b : Bool) → (b || true) ≡ true
or_true true = refl
or_true false = refl

had_more : (d : Bool) (kept members : List Record) (r : Record) → length kept ≤ length members
    → nat_lt (length (kept ++ last d r)) (length (members ++ r ∷ [])) ≡ (nat_lt (length kept) (length members) || d)
had_more true kept members r h =
    rw (append-nil kept, length-append members (r ∷ []), or_true (nat_lt (length kept) (length members))) (lt-ltb (length kept) (length members + 1) (omega (arith, h)))
had_more false kept members r h =
    rw (length-append kept (r ∷ []), length-append members (r ∷ [])) (go (nat_lt (length kept) (length members)) refl) where
      go : (b : Bool) → nat_lt (length kept) (length members) ≡ b → nat_lt (length kept + 1) (length members + 1) ≡ (b || false)
      go true e = lt-ltb (length kept + 1) (length members + 1) (omega (arith, ltb-true (length kept) (length members) e))
      go false e = le-ltb (length kept + 1) (length members + 1) (omega (arith, ltb-false (length kept) (length members) e))

module _ (r : Record) where
  shape : (b d h : Bool) (ps ss : List Record) → is_signature r ≡ b
      → cond b (group_from ps (cond d ss (ss ++ r ∷ [])) (h || d)) (group_from (cond d ps (ps ++ r ∷ [])) ss (h || d))
      ≡ group_from (ps ++ plain_records (last d r)) (ss ++ filter is_signature (last d r)) (h || d)
  shape true true h ps ss e = rw (append-nil ps, append-nil ss) refl
  shape true false h ps ss e = rw (e, append-nil ps) refl
  shape false true h ps ss e = rw (append-nil ps, append-nil ss) refl
  shape false false h ps ss e = rw (e, append-nil ss) refl

  -- one more record among the members that are kept
  adds : (d h b : Bool) (xs : List Record) → list_any (λ x. are_duplicates x r) xs ≡ d → Each (λ x. of_one_group x r ≡ true) xs → is_signature r ≡ b
      → cond b (group_from (plain_records xs) (with_record r (filter is_signature xs)) (h || has_data (canonical_of r) (filter is_signature xs)))
      (group_from (with_record r (plain_records xs)) (filter is_signature xs) (h || has_data (canonical_of r) (plain_records xs)))
      ≡ group_from (plain_records xs ++ plain_records (last d r)) (filter is_signature xs ++ filter is_signature (last d r)) (h || d)
  adds d h true xs e all s = rw (has_is r is_signature xs (each_signed r s xs all) ∙ e) (shape true d h (plain_records xs) (filter is_signature xs) s)
  adds d h false xs e all s = rw (has_is r (λ x. not (is_signature x)) xs (each_plain r s xs all) ∙ e) (shape false d h (plain_records xs) (filter is_signature xs) s)

abbrev pub kept_of : List Record → List Record
kept_of members = firsts are_duplicates members

leads_kept : (f : Record) (rest : List Record) → Each (λ m. of_one_group f m ≡ true) rest
    → Leads f (plain_records (kept_of (f ∷ rest))) (filter is_signature (kept_of (f ∷ rest)))
unfolding firsts
leads_kept f rest h =
    leads_all f (filter (λ y. not (are_duplicates f y)) (kept_of rest)) (each_filter (λ m. of_one_group f m ≡ true) (λ y. not (are_duplicates f y)) (kept_of rest) (each_firsts (λ m. of_one_group f m ≡ true) are_duplicates rest h))

-- one more member of a group
group_more : (f r : Record) (rest : List Record) → Each (λ m. of_one_group f m ≡ true) rest → of_one_group f r ≡ true
    → put_in r (group_of f (f ∷ rest)) ≡ group_of f (f ∷ (rest ++ r ∷ []))
group_more f r rest all his =
    let members : List Record = f ∷ rest in
    let kept : List Record = kept_of members in
    let d : Bool = list_any (λ x. are_duplicates x r) kept in
    let had : Bool = nat_lt (length kept) (length members) in
    let with_r : Each (λ x. of_one_group x r ≡ true) members = to_r members (group_itself f, all) in
    let more : kept_of (members ++ r ∷ []) ≡ kept ++ last d r = firsts_more are_duplicates same_itself same_agree members r in
    adds r d had (is_signature r) kept refl (each_firsts (λ x. of_one_group x r ≡ true) are_duplicates members with_r) refl
    ∙ sym (
    led_is f (plain_records (kept_of (members ++ r ∷ []))) (filter is_signature (kept_of (members ++ r ∷ []))) (nat_lt (length (kept_of (members ++ r ∷ []))) (length (members ++ r ∷ [])))
    (leads_kept f (rest ++ r ∷ []) (each_append (λ m. of_one_group f m ≡ true) rest (r ∷ []) all (his, tt)))
    ∙ ap (λ ks. group_from (plain_records ks) (filter is_signature ks) (nat_lt (length ks) (length (members ++ r ∷ [])))) more
    ∙ ap (λ b. group_from (plain_records (kept ++ last d r)) (filter is_signature (kept ++ last d r)) b) (had_more d kept members r (firsts_fewer are_duplicates members))
    ∙ ap (λ ps. group_from ps (filter is_signature (kept ++ last d r)) (had || d)) (filter-append (λ x. not (is_signature x)) kept (last d r))
    ∙ ap (λ ss. group_from (plain_records kept ++ plain_records (last d r)) ss (had || d)) (filter-append is_signature kept (last d r))) where
      to_r : (xs : List Record) → Each (λ m. of_one_group f m ≡ true) xs → Each (λ x. of_one_group x r ≡ true) xs
      to_r xs h = each_so (λ m. of_one_group f m ≡ true) (λ x. of_one_group x r ≡ true) (λ x k. sym (group_agree f x r k) ∙ his) xs h

-- the group of those of a section that are of one group with f
abbrev pub group_in : List Record → Record → Group
group_in section f = group_of f (filter (of_one_group f) section)

all_alike : (f : Record) (xs : List Record) → Each (λ m. of_one_group f m ≡ true) (filter (of_one_group f) xs)
all_alike f xs =
    each_so (λ m. Unit {0} × (of_one_group f m ≡ true)) (λ m. of_one_group f m ≡ true) (λ m h. h.1) (filter (of_one_group f) xs)
    (each_kept (λ m. Unit {0}) (of_one_group f) xs (each_always (λ m. Unit {0}) (λ m. tt) xs))

module _ (section : List Record) (r : Record) where
  abbrev First : Record → Type 0
  First f = ComesFirst of_one_group group_itself group_agree section f

  members_more : (f : Record) → filter (of_one_group f) (section ++ r ∷ []) ≡ filter (of_one_group f) section ++ cond (of_one_group f r) (r ∷ []) []
  members_more f = filter-append (of_one_group f) section (r ∷ [])

  other_group : (f : Record) → of_one_group f r ≡ false → group_in section f ≡ group_in (section ++ r ∷ []) f
  other_group f e = sym (ap (group_of f) (members_more f ∙ ap (λ b. filter (of_one_group f) section ++ cond b (r ∷ []) []) e ∙ append-nil (filter (of_one_group f) section)))

  other_groups : (fs : List Record) → Each (λ f. of_one_group f r ≡ false) fs → map (group_in section) fs ≡ map (group_in (section ++ r ∷ [])) fs
  other_groups [] h = refl
  other_groups (f ∷ fs) h = rw (other_group f h.0, other_groups fs h.1) refl

  belongs_in : (f : Record) → First f → belongs_to r (group_in section f) ≡ of_one_group f r
  belongs_in f h =
      let alike : Each (λ m. of_one_group f m ≡ true) (f ∷ h.0) = subst (λ ms. Each (λ m. of_one_group f m ≡ true) ms) h.1 (all_alike f section) in
      ap (λ ms. belongs_to r (group_of f ms)) h.1
      ∙ belongs_is f r (plain_records (kept_of (f ∷ h.0))) (filter is_signature (kept_of (f ∷ h.0))) (leads_kept f h.0 alike.1)

  put_is : (f : Record) → First f → of_one_group f r ≡ true → put_in r (group_in section f) ≡ group_in (section ++ r ∷ []) f
  put_is f h his =
      let alike : Each (λ m. of_one_group f m ≡ true) (f ∷ h.0) = subst (λ ms. Each (λ m. of_one_group f m ≡ true) ms) h.1 (all_alike f section) in
      ap (λ ms. put_in r (group_of f ms)) h.1
      ∙ group_more f r h.0 alike.1 his
      ∙ sym (ap (group_of f) (members_more f ∙ ap (λ ms. ms ++ cond (of_one_group f r) (r ∷ []) []) h.1 ∙ ap (λ b. (f ∷ h.0) ++ cond b (r ∷ []) []) his))

  new_shape : (b : Bool) → cond b (group_from [] (r ∷ []) false) (group_from (r ∷ []) [] false) ≡ group_from (cond (not b) (r ∷ []) []) (cond b (r ∷ []) []) false
  new_shape true = refl
  new_shape false = refl

  new_is : new_group r ≡ group_of r (r ∷ [])
  unfolding firsts
  new_is = new_shape (is_signature r) ∙ sym (led_is r (plain_records (r ∷ [])) (filter is_signature (r ∷ [])) false (leads_all r [] tt))

  placed_step : (b : Bool) (g : Group) (gs : List Group) → belongs_to r g ≡ b → placed r (g ∷ gs) ≡ cond b (put_in r g ∷ gs) (g ∷ placed r gs)
  unfolding placed
  placed_step b g gs e = rw e refl

  -- the group that the record makes where it belongs to none
  abbrev pub last_group : Bool → List Group
  last_group found = cond found [] (group_of r (r ∷ []) ∷ [])

  unlike_too : (f : Record) (fs : List Record) → of_one_group f r ≡ true → Each (λ y. of_one_group f y ≡ false) fs → Each (λ y. of_one_group y r ≡ false) fs
  unlike_too f fs his h =
      each_so (λ y. of_one_group f y ≡ false) (λ y. of_one_group y r ≡ false)
      (λ y k. turned of_one_group group_itself group_agree y r ∙ sym (group_agree f r y his) ∙ k) fs h

  placed_one : (f : Record) (fs : List Record) (b : Bool) → of_one_group f r ≡ b → First f → Each (λ y. of_one_group f y ≡ false) fs
      → placed r (map (group_in section) fs) ≡ map (group_in (section ++ r ∷ [])) fs ++ last_group (list_any (λ f. of_one_group f r) fs)
      → placed r (group_in section f ∷ map (group_in section) fs)
      ≡ (group_in (section ++ r ∷ []) f ∷ map (group_in (section ++ r ∷ [])) fs) ++ last_group (of_one_group f r || list_any (λ f. of_one_group f r) fs)
  placed_one f fs true e first apart others =
      placed_step true (group_in section f) (map (group_in section) fs) (belongs_in f first ∙ e)
      ∙ ap (λ g. g ∷ map (group_in section) fs) (put_is f first e)
      ∙ ap (λ gs. group_in (section ++ r ∷ []) f ∷ gs) (other_groups fs (unlike_too f fs e apart) ∙ sym (append-nil (map (group_in (section ++ r ∷ [])) fs)))
      ∙ ap (λ b. (group_in (section ++ r ∷ []) f ∷ map (group_in (section ++ r ∷ [])) fs) ++ last_group (b || list_any (λ f. of_one_group f r) fs)) (sym e)
  placed_one f fs false e first apart others =
      placed_step false (group_in section f) (map (group_in section) fs) (belongs_in f first ∙ e)
      ∙ ap (λ g. g ∷ placed r (map (group_in section) fs)) (other_group f e)
      ∙ ap (λ gs. group_in (section ++ r ∷ []) f ∷ gs) others
      ∙ ap (λ b. (group_in (section ++ r ∷ []) f ∷ map (group_in (section ++ r ∷ [])) fs) ++ last_group (b || list_any (λ f. of_one_group f r) fs)) (sym e)

  placed_among : (fs : List Record) → Each First fs → Apart of_one_group group_itself group_agree fs
      → placed r (map (group_in section) fs) ≡ map (group_in (section ++ r ∷ [])) fs ++ last_group (list_any (λ f. of_one_group f r) fs)
  unfolding placed
  placed_among [] h a = ap (λ g. g ∷ []) new_is
  placed_among (f ∷ fs) h a = placed_one f fs (of_one_group f r) refl h.0 a.0 (placed_among fs h.1 a.1)

  made_last : (found : Bool) → list_any (λ y. of_one_group y r) section ≡ found → map (group_in (section ++ r ∷ [])) (last found r) ≡ last_group found
  made_last true e = refl
  made_last false e =
      ap (λ ms. group_of r ms ∷ [])
      (members_more r ∙ ap (λ ms. ms ++ cond (of_one_group r r) (r ∷ []) []) (none_alike of_one_group group_itself group_agree r section e) ∙ ap (λ b. cond b (r ∷ []) []) (group_itself r))

  -- the groups of a section and one more record
  pub groups_more : groups_of (section ++ r ∷ []) ≡ placed r (groups_of section)
  groups_more =
      let fs : List Record = firsts of_one_group section in
      let found : Bool = list_any (λ y. of_one_group y r) fs in
      ap (map (group_in (section ++ r ∷ []))) (firsts_more of_one_group group_itself group_agree section r)
      ∙ map-append (group_in (section ++ r ∷ [])) fs (last found r)
      ∙ ap (λ gs. map (group_in (section ++ r ∷ [])) fs ++ gs) (made_last found (sym (any_firsts of_one_group group_itself group_agree r section)))
      ∙ sym (placed_among fs (firsts_come_first of_one_group group_itself group_agree section) (firsts_apart of_one_group group_itself group_agree section))
