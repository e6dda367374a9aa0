-- CNAME records, and the groups that they follow from, looked through one after the other.
use Rattle.std.proofs.Common.{◌≡◌, ℕ, zero, suc, ◌+◌, ◌-◌, ◌<◌, ◌≤◌, Bool, true, false, cond, ◌||◌, List, [], ◌∷◌, ◌++◌, map, length, take, drop, get_or, filter, Option, Some, None, refl, sym, ap, subst, ◌∙◌, arith, append-nil, append_assoc, nat_lt}
use Rattle.std.specs.Prelude.{count_by, flat_map, ◌==◌, Ok, Err, slice_get, unwrap_or, if◌then◌else◌}
use Rattle.std.specs.Bool.{OnFalse}
use Rattle.std.specs.List.{list_any}
use Rattle.std.specs.Option.{is_some}
use Rattle.std.proofs.lemmas.Bool.{eq-eqb, eqb-true, true≢false}
use Rattle.std.proofs.lemmas.List.{at_drop_more, at_drop_all, drop_more, drop-drop, length-map, length-take, map-append, take_more}
use Rattle.std.proofs.lemmas.List.Concat.{flat_map-append}
use Rattle.std.proofs.lemmas.List.Elements.{filter-append}
use Rattle.std.proofs.lemmas.List.Sums.{sum_by-cons}
use Rattle.dsec_group.proofs.IndexLaws.{there_by, there_is}
use Rattle.dsec_name.specs.JoinedNames.{name_or_long, needs_memory}
use Rattle.dsec_spec.specs.Groups.{Group}
use Rattle.dsec_name.specs.declared.push_name.PushNameError.{PushNameError}
use Rattle.dsec_spec.proofs.CanonicalNames.{same_place_decides}
use Rattle.dsec_spec.specs.Names.{Labels, place, same_place, wire_length}
use Rattle.dsec_spec.specs.Records.{Record}
use Rattle.dsec_spec.specs.Redirection.{Mapping, silent, agrees, too_long, bare_alias, first_said, fitting, followed, followed_from, followers, group_says, index_by, is_bare, is_index, map_dname, mapping, moved, mapping_to, said_by, staying_from, stays, with_followers}
use Rattle.dsec_group.specs.Followers.{follower_view, followers_at, followers_in}
use Rattle.dsec_group.specs.Keys.{GroupKey, group_key, has_key, is_key}
use Rattle.dsec_group.specs.Mappings.{may_speak, or_push_error}
use Rattle.dsec_group.specs.declared.settle.Follower.{Follower}

-- the name that a DNAME maps a name to, put together of its first labels and the target
pub mapped_is : (owner target name : Labels) (before : ℕ) → before ≡ length name - length owner → name_or_long (take before name ++ target) ≡ or_push_error (map_dname owner target name)
mapped_is owner target name before e = ap (λ n. name_or_long (take n name ++ target)) e ∙ go (take (length name - length owner) name ++ target) (nat_lt 255 (wire_length (take (length name - length owner) name ++ target))) refl where
  go : (labels : Labels) (b : Bool) → nat_lt 255 (wire_length labels) ≡ b → name_or_long labels ≡ or_push_error (fitting labels)
  go labels true e = rw e refl
  go labels false e = rw e refl

-- what is said of a CNAME record by the name that its owner is mapped to
some_mapped : (o : Option Labels) (name : Labels) → or_push_error o ≡ Ok name → o ≡ Some name
some_mapped (Some n) name e = cc
some_mapped None name e = absurd cc

none_mapped : (o : Option Labels) → or_push_error o ≡ Err PushNameError.PushNameError → o ≡ None
none_mapped (Some n) e = absurd cc
none_mapped None e = refl

module _ (o : Option Labels) (alias : Labels) where
  pub agrees_by : (name : Labels) → or_push_error o ≡ Ok name → place alias ≡ place name → mapping_to o alias ≡ agrees
  agrees_by name e same =
      ap (λ p. mapping_to p alias) (some_mapped o name e)
      ∙ ap (λ b. if b then agrees else silent) ((same_place_decides (place name) (place alias)).1 (sym same))

  pub silent_by : (name : Labels) → or_push_error o ≡ Ok name → (place alias ≡ place name → ⊥) → mapping_to o alias ≡ silent
  silent_by name e other = ap (λ p. mapping_to p alias) (some_mapped o name e) ∙ go (same_place (place name) (place alias)) refl where
    go : (b : Bool) → same_place (place name) (place alias) ≡ b → (if same_place (place name) (place alias) then agrees else silent) ≡ silent
    go true h = absurd (other (sym ((same_place_decides (place name) (place alias)).0 h)))
    go false h = rw h refl

  too_long_by : or_push_error o ≡ Err PushNameError.PushNameError → mapping_to o alias ≡ too_long
  too_long_by e = ap (λ p. mapping_to p alias) (none_mapped o e)

  pub too_long_at : (e : PushNameError) → OnFalse (needs_memory e) (or_push_error o ≡ Err e) → e ≡ PushNameError.PushNameError → mapping_to o alias ≡ too_long
  too_long_at e h same = too_long_by (subst (λ x. OnFalse (needs_memory x) (or_push_error o ≡ Err x)) same h)

-- a group that may speak does so by its records
pub speaks : (anchors : List Record) (cname : Record) (g : Group) → may_speak anchors cname g ≡ true → group_says anchors cname g ≡ said_by cname g.records
speaks anchors cname g h = rw h refl

module _ (cname : Record) where
  said_at : (dname : Record) (records : List Record) (i : ℕ) → i < length records → dname ≡ get_or records i dname
      → said_by cname (drop i records) ≡ first_said (mapping cname dname) (said_by cname (drop (i + 1) records))
  unfolding said_by
  said_at dname records i within is =
      at_drop_more (said_by cname) records i dname within ∙ ap (λ (d : Record). said_by cname (d ∷ drop (i + 1) records)) (sym is)

  pub said_silent : (dname : Record) (records : List Record) (i : ℕ) (whole : Mapping) → i < length records → dname ≡ get_or records i dname → mapping cname dname ≡ silent
      → said_by cname (drop i records) ≡ whole → said_by cname (drop (i + 1) records) ≡ whole
  said_silent dname records i whole within is none so_far =
      sym (ap (λ m. first_said m (said_by cname (drop (i + 1) records))) none) ∙ (sym (said_at dname records i within is) ∙ so_far)

  pub said_agrees : (dname : Record) (records : List Record) (i : ℕ) → i < length records → dname ≡ get_or records i dname → mapping cname dname ≡ agrees → said_by cname (drop i records) ≡ agrees
  said_agrees dname records i within is says = said_at dname records i within is ∙ ap (λ m. first_said m (said_by cname (drop (i + 1) records))) says

  pub said_too_long : (dname : Record) (records : List Record) (i : ℕ) → i < length records → dname ≡ get_or records i dname → mapping cname dname ≡ too_long → said_by cname (drop i records) ≡ too_long
  said_too_long dname records i within is says = said_at dname records i within is ∙ ap (λ m. first_said m (said_by cname (drop (i + 1) records))) says

  pub said_nothing : (records : List Record) (i : ℕ) → length records ≤ i → said_by cname (drop i records) ≡ silent
  unfolding said_by
  said_nothing records i past = at_drop_all (said_by cname) records i past

-- the group that a CNAME record follows from, looked for from an index on
module _ (anchors : List Record) (cname : Record) where
  followed_at : (g : Group) (groups : List Group) (i : ℕ) → i < length groups → g ≡ get_or groups i g
      → followed_from anchors cname i (drop i groups) ≡ index_by i (group_says anchors cname g) (followed_from anchors cname (i + 1) (drop (i + 1) groups))
  unfolding followed_from
  followed_at g groups i within is =
      let next : i + 1 ≡ suc i = omega arith in
      at_drop_more (followed_from anchors cname i) groups i g within ∙ (ap (λ (h : Group). followed_from anchors cname i (h ∷ drop (i + 1) groups)) (sym is)
      ∙ ap (λ n. index_by i (group_says anchors cname g) (followed_from anchors cname n (drop (i + 1) groups))) (sym next))

  pub followed_later : (g : Group) (groups : List Group) (i : ℕ) (whole : Option ℕ) → i < length groups → g ≡ get_or groups i g → group_says anchors cname g ≡ silent
      → followed_from anchors cname i (drop i groups) ≡ whole → followed_from anchors cname (i + 1) (drop (i + 1) groups) ≡ whole
  followed_later g groups i whole within is none so_far =
      sym (ap (λ m. index_by i m (followed_from anchors cname (i + 1) (drop (i + 1) groups))) none) ∙ (sym (followed_at g groups i within is) ∙ so_far)

  pub followed_here : (g : Group) (groups : List Group) (i : ℕ) → i < length groups → g ≡ get_or groups i g → group_says anchors cname g ≡ agrees → followed_from anchors cname i (drop i groups) ≡ Some i
  followed_here g groups i within is says = followed_at g groups i within is ∙ ap (λ m. index_by i m (followed_from anchors cname (i + 1) (drop (i + 1) groups))) says

  pub followed_never : (g : Group) (groups : List Group) (i : ℕ) → i < length groups → g ≡ get_or groups i g → group_says anchors cname g ≡ too_long → followed_from anchors cname i (drop i groups) ≡ None
  followed_never g groups i within is says = followed_at g groups i within is ∙ ap (λ m. index_by i m (followed_from anchors cname (i + 1) (drop (i + 1) groups))) says

  pub followed_none : (groups : List Group) (i : ℕ) → length groups ≤ i → followed_from anchors cname i (drop i groups) ≡ None
  unfolding followed_from
  followed_none groups i past = at_drop_all (followed_from anchors cname i) groups i past

-- those that follow from the group at an index, by the indexes of all
follower_step : (o : Option ℕ) (os : List (Option ℕ)) (g : Group) (gs kept : List Group) (n : ℕ) → followers_at n (followers_in os gs) ≡ kept
    → followers_at n (followers_in (o ∷ os) (g ∷ gs)) ≡ cond (is_index n o) (g ∷ kept) kept
follower_step None os g gs kept n h = h
follower_step (Some to) os g gs kept n h = go (to == n) refl where
  go : (b : Bool) → (to == n) ≡ b → followers_at n ((to, g) ∷ followers_in os gs) ≡ cond (to == n) (g ∷ kept) kept
  go true e = rw (e, h) refl
  go false e = rw (e, h) refl

pub followers_are : (anchors : List Record) (groups gs : List Group) (n : ℕ) → followers_at n (followers_in (map (followed anchors groups) gs) gs) ≡ filter (λ g. is_index n (followed anchors groups g)) gs
followers_are anchors groups [] n = refl
followers_are anchors groups (g ∷ gs) n = follower_step (followed anchors groups g) (map (followed anchors groups) gs) g gs (filter (λ h. is_index n (followed anchors groups h)) gs) n (followers_are anchors groups gs n)

or_false : (b : Bool) → (b || false) ≡ b
or_false true = refl
or_false false = refl

or_assoc : (a b c : Bool) → ((a || b) || (c || false)) ≡ (a || (b || c))
or_assoc true b c = refl
or_assoc false true c = refl
or_assoc false false c = or_false c

-- a group with no followers, and with one more
pub with_none : (g : Group) → with_followers g [] ≡ g
with_none g = rw (append-nil g.extra, or_false g.had_duplicate) refl

any_append : (xs ys : List Group) → list_any (λ (g : Group). g.had_duplicate) (xs ++ ys) ≡ (list_any (λ (g : Group). g.had_duplicate) xs || list_any (λ (g : Group). g.had_duplicate) ys)
any_append [] ys = refl
any_append (x ∷ xs) ys = ap (λ b. x.had_duplicate || b) (any_append xs ys) ∙ go x.had_duplicate (list_any (λ (g : Group). g.had_duplicate) xs) (list_any (λ (g : Group). g.had_duplicate) ys) where
  go : (a b c : Bool) → (a || (b || c)) ≡ ((a || b) || c)
  go true b c = refl
  go false b c = refl

pub with_one_more : (g a : Group) (xs : List Group) → with_followers (with_followers g xs) (a ∷ []) ≡ with_followers g (xs ++ a ∷ [])
with_one_more g a xs =
    rw (flat_map-append (λ (h : Group). h.records) xs (a ∷ []), any_append xs (a ∷ []), append_assoc g.extra (flat_map (λ (h : Group). h.records) xs) (flat_map (λ (h : Group). h.records) (a ∷ [])))
    (λ i. record { owner = g.owner; class = g.class; rtype = g.rtype; records = g.records; signatures = g.signatures; extra = g.extra ++ (flat_map (λ (h : Group). h.records) xs ++ flat_map (λ (h : Group). h.records) (a ∷ [])); had_duplicate = marks g.had_duplicate (list_any (λ (h : Group). h.had_duplicate) xs) a.had_duplicate i }) where
      marks : (a b c : Bool) → ((a || b) || (c || false)) ≡ (a || (b || (c || false)))
      marks true b c = refl
      marks false b c = refl

-- the followers, with one more thing at the end
pub followers_more : (n : ℕ) (xs : List (ℕ × Group)) (x : ℕ × Group) → followers_at n (xs ++ x ∷ []) ≡ followers_at n xs ++ cond (x.0 == n) (x.1 ∷ []) []
followers_more n xs x =
    ap (map (λ (p : ℕ × Group). p.1)) (filter-append (λ (p : ℕ × Group). p.0 == n) xs (x ∷ []))
    ∙ map-append (λ (p : ℕ × Group). p.1) (filter (λ (p : ℕ × Group). p.0 == n) xs) (filter (λ (p : ℕ × Group). p.0 == n) (x ∷ []))
    ∙ ap (λ ys. followers_at n xs ++ ys) (go (x.0 == n) refl) where
      go : (b : Bool) → (x.0 == n) ≡ b → followers_at n (x ∷ []) ≡ cond (x.0 == n) (x.1 ∷ []) []
      go true e = rw e refl
      go false e = rw e refl

-- the groups that stay, with one more group at the end
pub staying_more : (anchors : List Record) (groups xs : List Group) (x : Group) (n m : ℕ) → m ≡ n + length xs → staying_from anchors groups n (xs ++ x ∷ []) ≡ staying_from anchors groups n xs ++ stays anchors groups m x
unfolding staying_from
staying_more anchors groups [] x n m e =
    let same : m ≡ n = omega (arith, e) in
    append-nil (stays anchors groups n x) ∙ ap (λ k. stays anchors groups k x) (sym same)
staying_more anchors groups (y ∷ xs) x n m e =
    ap (λ zs. stays anchors groups n y ++ zs) (staying_more anchors groups xs x (suc n) m (omega (arith, e)))
    ∙ sym (append_assoc (stays anchors groups n y) (staying_from anchors groups (suc n) xs) (stays anchors groups m x))

-- a key that none of the groups has, none that stays has
pub staying_keys : (anchors : List Record) (k : GroupKey) (groups gs : List Group) (n : ℕ) → has_key k gs ≡ false → has_key k (staying_from anchors groups n gs) ≡ false
unfolding staying_from
staying_keys anchors k groups [] n h = refl
staying_keys anchors k groups (g ∷ gs) n h =
    let q = both (is_key k (group_key g)) (has_key k gs) h in
    go (is_some (followed anchors groups g)) q.0 (staying_keys anchors k groups gs (suc n) q.1) where
      both : (b c : Bool) → (b || c) ≡ false → (b ≡ false) × (c ≡ false)
      both true c h = absurd (true≢false h)
      both false c h = (refl, h)

      go : (b : Bool) → is_key k (group_key g) ≡ false → has_key k (staying_from anchors groups (suc n) gs) ≡ false
          → has_key k (cond b [] (with_followers g (followers anchors groups n) ∷ []) ++ staying_from anchors groups (suc n) gs) ≡ false
      go true a h = h
      go false a h = rw a h

-- where none is bare, all stay as they are
none_follows : (anchors : List Record) (groups : List Group) (g : Group) → is_bare g ≡ false → followed anchors groups g ≡ None
none_follows anchors groups g h = go (bare_alias g) refl h where
  go : (o : Option Record) → bare_alias g ≡ o → is_some o ≡ false → followed anchors groups g ≡ None
  go None e h = rw e refl
  go (Some r) e h = absurd (true≢false h)

first_bare : (g : Group) (gs : List Group) → count_by is_bare (g ∷ gs) ≡ 0 → (is_bare g ≡ false) × (count_by is_bare gs ≡ 0)
first_bare g gs h = go (is_bare g) refl (sym (sum_by-cons (λ (x : Group). cond (is_bare x) 1 0) g gs) ∙ h) where
  go : (b : Bool) → is_bare g ≡ b → cond b 1 0 + count_by is_bare gs ≡ 0 → (is_bare g ≡ false) × (count_by is_bare gs ≡ 0)
  go true e h = absurd (omega (arith, h))
  go false e h = (e, omega (arith, h))

no_followers : (anchors : List Record) (groups gs : List Group) (n : ℕ) → count_by is_bare gs ≡ 0 → filter (λ g. is_index n (followed anchors groups g)) gs ≡ []
no_followers anchors groups [] n h = refl
no_followers anchors groups (g ∷ gs) n h =
    let q = first_bare g gs h in
    rw (none_follows anchors groups g q.0) (no_followers anchors groups gs n q.1)

pub none_moves : (anchors : List Record) (groups gs : List Group) (n : ℕ) → count_by is_bare groups ≡ 0 → count_by is_bare gs ≡ 0 → staying_from anchors groups n gs ≡ gs
unfolding staying_from
none_moves anchors groups [] n all h = refl
none_moves anchors groups (g ∷ gs) n all h =
    let q = first_bare g gs h in
    rw (none_follows anchors groups g q.0, no_followers anchors groups groups n all, with_none g, none_moves anchors groups gs (suc n) all q.1) refl

-- copies of records pushed one after the other
pub pushed_one : (was now more records : List Record) (i : ℕ) (item copy : Record) → now ≡ was ++ take i records → more ≡ now ++ copy ∷ [] → copy ≡ item → i < length records → item ≡ get_or records i item
    → more ≡ was ++ take (i + 1) records
pushed_one was now more records i item copy so_far pushed same within is =
    pushed ∙ (ap (λ (xs : List Record). xs ++ copy ∷ []) so_far
    ∙ (append_assoc was (take i records) (copy ∷ []) ∙ ap (λ (xs : List Record). was ++ xs) (ap (λ (r : Record). take i records ++ r ∷ []) (same ∙ is) ∙ sym (take_more records i item within))))

-- a group with its followers, of which one more was looked at
module _ {F : Type 0} (view : F → ℕ × Group) (g : Group) (n : ℕ) (all : List F) (i : ℕ) (x : F) (within : i < length all) (is : x ≡ get_or all i x) where
  one_further : followers_at n (map view (take (i + 1) all)) ≡ followers_at n (map view (take i all)) ++ cond ((view x).0 == n) ((view x).1 ∷ []) []
  one_further =
      ap (λ (xs : List F). followers_at n (map view xs)) (take_more all i x within ∙ ap (λ (y : F). take i all ++ y ∷ []) (sym is))
      ∙ (ap (followers_at n) (map-append view (take i all) (x ∷ [])) ∙ followers_more n (map view (take i all)) (view x))

  pub took : (whole more : Group) → whole ≡ with_followers g (followers_at n (map view (take i all))) → more ≡ with_followers whole ((view x).1 ∷ []) → (view x).0 ≡ n
      → more ≡ with_followers g (followers_at n (map view (take (i + 1) all)))
  took whole more so_far now here =
      now ∙ (ap (λ (h : Group). with_followers h ((view x).1 ∷ [])) so_far
      ∙ (with_one_more g (view x).1 (followers_at n (map view (take i all)))
      ∙ ap (with_followers g) (ap (λ b. followers_at n (map view (take i all)) ++ cond b ((view x).1 ∷ []) []) (sym (eq-eqb (view x).0 n here)) ∙ sym one_further)))

  differs : (b : Bool) → ((view x).0 == n) ≡ b → ((view x).0 ≡ n → ⊥) → ((view x).0 == n) ≡ false
  differs true e other = absurd (other (eqb-true (view x).0 n e))
  differs false e other = e

  pub passed : (whole : Group) → whole ≡ with_followers g (followers_at n (map view (take i all))) → ((view x).0 ≡ n → ⊥)
      → whole ≡ with_followers g (followers_at n (map view (take (i + 1) all)))
  passed whole so_far elsewhere =
      so_far ∙ ap (with_followers g) (sym (append-nil (followers_at n (map view (take i all)))) ∙ (ap (λ b. followers_at n (map view (take i all)) ++ cond b ((view x).1 ∷ []) []) (sym (differs ((view x).0 == n) refl elsewhere)) ∙ sym one_further))

-- the followers among groups, of which one more was looked at
module _ (all : List (Option ℕ)) (gs : List Group) (i : ℕ) (g : Group) (within : i < length gs) (as_many : length all ≡ length gs) (is : g ≡ get_or gs i g) where
  from_here : followers_in (drop i all) (drop i gs) ≡ followers_in (get_or all i None ∷ drop (i + 1) all) (g ∷ drop (i + 1) gs)
  from_here =
      ap (λ (os : List (Option ℕ)). followers_in os (drop i gs)) (drop_more all i None (omega (arith, within, as_many)))
      ∙ ap (followers_in (get_or all i None ∷ drop (i + 1) all)) (drop_more gs i g within ∙ ap (λ (h : Group). h ∷ drop (i + 1) gs) (sym is))

  pub follows_one : (fs : List Follower) (f : Follower) (to : ℕ) (whole : List (ℕ × Group)) → map follower_view fs ++ followers_in (drop i all) (drop i gs) ≡ whole → get_or all i None ≡ Some to
      → follower_view f ≡ (to, g) → map follower_view (fs ++ f ∷ []) ++ followers_in (drop (i + 1) all) (drop (i + 1) gs) ≡ whole
  follows_one fs f to whole so_far there view =
      ap (λ (ps : List (ℕ × Group)). ps ++ followers_in (drop (i + 1) all) (drop (i + 1) gs)) (map-append follower_view fs (f ∷ []) ∙ ap (λ (p : ℕ × Group). map follower_view fs ++ p ∷ []) view)
      ∙ (append_assoc (map follower_view fs) ((to, g) ∷ []) (followers_in (drop (i + 1) all) (drop (i + 1) gs))
      ∙ (ap (λ (ps : List (ℕ × Group)). map follower_view fs ++ ps) (sym (from_here ∙ ap (λ (o : Option ℕ). followers_in (o ∷ drop (i + 1) all) (g ∷ drop (i + 1) gs)) there)) ∙ so_far))

none_skips : (os : List (Option ℕ)) (gs : List Group) → followers_in (None ∷ os) gs ≡ followers_in os (drop 1 gs)
none_skips os (g ∷ gs) = refl
none_skips [] [] = refl
none_skips (o ∷ os) [] = refl

-- the same, of one that follows from none
pub follows_none : (all : List (Option ℕ)) (gs : List Group) (i : ℕ) → i < length all → (fs : List Follower) (whole : List (ℕ × Group)) → map follower_view fs ++ followers_in (drop i all) (drop i gs) ≡ whole
    → ((to : ℕ) → get_or all i None ≡ Some to → ⊥) → map follower_view fs ++ followers_in (drop (i + 1) all) (drop (i + 1) gs) ≡ whole
follows_none all gs i within fs whole so_far none = go (get_or all i None) refl where
  go : (o : Option ℕ) → get_or all i None ≡ o → map follower_view fs ++ followers_in (drop (i + 1) all) (drop (i + 1) gs) ≡ whole
  go None e =
      ap (λ (ps : List (ℕ × Group)). map follower_view fs ++ ps)
      (sym (
      ap (λ (os : List (Option ℕ)). followers_in os (drop i gs)) (drop_more all i None within)
      ∙ (ap (λ (o : Option ℕ). followers_in (o ∷ drop (i + 1) all) (drop i gs)) e
      ∙ (none_skips (drop (i + 1) all) (drop i gs) ∙ ap (followers_in (drop (i + 1) all)) (drop-drop 1 i gs)))
      ))
      ∙ so_far
  go (Some to) e = absurd (none to e)

-- groups that stay, of which one more was looked at
module _ (anchors : List Record) (groups : List Group) (i : ℕ) (g : Group) (settled : List Group) (within : i < length groups) (is : g ≡ get_or groups i g) (so_far : settled ≡ staying_from anchors groups 0 (take i groups)) where
  stays_next : staying_from anchors groups 0 (take (i + 1) groups) ≡ settled ++ stays anchors groups i g
  stays_next =
      ap (staying_from anchors groups 0) (take_more groups i g within ∙ ap (λ (h : Group). take i groups ++ h ∷ []) (sym is))
      ∙ (staying_more anchors groups (take i groups) g 0 i (omega (arith, within, length-take i groups)) ∙ ap (λ (hs : List Group). hs ++ stays anchors groups i g) (sym so_far))

  pub stays_on : (more : List Group) (whole : Group) (pairs : List (ℕ × Group)) → is_some (followed anchors groups g) ≡ false → whole ≡ with_followers g (followers_at i pairs)
      → pairs ≡ followers_in (map (followed anchors groups) groups) groups → more ≡ settled ++ whole ∷ [] → more ≡ staying_from anchors groups 0 (take (i + 1) groups)
  stays_on more whole pairs none made are pushed =
      pushed ∙ (ap (λ (h : Group). settled ++ h ∷ []) (made ∙ ap (with_followers g) (ap (followers_at i) are ∙ followers_are anchors groups groups i))
      ∙ (ap (λ b. settled ++ (if b then [] else with_followers g (followers anchors groups i) ∷ [])) (sym none) ∙ sym stays_next))

  pub leaves_off : is_some (followed anchors groups g) ≡ true → settled ≡ staying_from anchors groups 0 (take (i + 1) groups)
  leaves_off some =
      sym (append-nil settled)
      ∙ (ap (λ b. settled ++ (if b then [] else with_followers g (followers anchors groups i) ∷ [])) (sym some) ∙ sym stays_next)

-- what the group at an index follows from, among the indexes of all
pub followed_index_at : (anchors : List Record) (groups : List Group) (all : List (Option ℕ)) (i : ℕ) (o : Option ℕ) (g : Group) → all ≡ map (followed anchors groups) groups → o ≡ get_or all i o → i < length groups → g ≡ get_or groups i g
    → followed anchors groups g ≡ o
followed_index_at anchors groups all i o g are there within is =
    let mine : slice_get (map (followed anchors groups) groups) i ≡ Some (followed anchors groups g) = there_by (followed anchors groups) groups i g within is in
    let its : slice_get all i ≡ Some o = there_is all i o o (omega (arith, within, ap length are, length-map groups (followed anchors groups))) there in
    ap (λ (x : Option (Option ℕ)). unwrap_or x None) (sym mine ∙ ap (λ (os : List (Option ℕ)). slice_get os i) (sym are) ∙ its)

-- each index has its element
pub element : {X : Type 0} (xs : List X) (i : ℕ) → i < length xs → (x : X) × (x ≡ get_or xs i x)
element [] i h = absurd (omega (arith, h))
element (x ∷ xs) zero h = (x, refl)
element (x ∷ xs) (suc i) h = element xs i (omega (arith, h))

-- where none is bare nothing is moved
pub nothing_moved : (anchors : List Record) (limit : ℕ) (groups : List Group) → count_by is_bare groups ≡ 0 → groups ≡ unwrap_or (moved anchors limit groups) groups
nothing_moved anchors limit groups none = go (nat_lt limit (count_by is_bare groups)) refl where
  go : (b : Bool) → nat_lt limit (count_by is_bare groups) ≡ b → groups ≡ unwrap_or (moved anchors limit groups) groups
  go true e = rw e refl
  go false e = rw e (sym (none_moves anchors groups groups 0 none none))
