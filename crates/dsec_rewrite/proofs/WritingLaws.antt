-- Items that are added one after the other, and how many octets a message then has.
use Rattle.std.proofs.Common.{◌≡◌, ℕ, ◌+◌, ◌<◌, ◌≤◌, List, [], ◌∷◌, ◌++◌, map, length, get_or, take, drop, refl, sym, ap, ◌∙◌, arith, append_assoc, append-nil, length-append, take-append-drop}
use Rattle.std.specs.Prelude.{Result, Err}
use Rattle.std.specs.List.{flat_map}
use Rattle.std.proofs.lemmas.List.{take_more, drop_more, map-append}
use Rattle.std.proofs.lemmas.List.Concat.{flat_map-append}
use Rattle.dsec_spec.specs.Messages.{Question}
use Rattle.dsec_spec.specs.Groups.{Group}
use Rattle.dsec_spec.specs.Records.{Record}
use Rattle.dsec_spec.specs.WrittenMessages.{Written, question_octets, record_octets, message_octets}
use Rattle.dsec_spec.proofs.WrittenMessageLaws.{length-message_octets}
use Rattle.dsec_builder.specs.Building.{with_question, with_answer, with_authority, with_additional}
use Rattle.dsec_rewrite.specs.Cutting.{Bounded, cut, cut_group, members, section_of}
use Rattle.dsec_rewrite.specs.Writing.{octets_of, asked_octets, with_questions, with_answers, with_authorities, with_additionals}

-- a list's front, an element, and the rest
apart : {A : Type 0} (xs : List A) (i : ℕ) (x : A) → i < length xs → x ≡ get_or xs i x → xs ≡ take i xs ++ x ∷ drop (i + 1) xs
apart xs i x within is =
    sym (take-append-drop i xs) ∙ ap (λ ys. take i xs ++ ys) (drop_more xs i x within ∙ ap (λ y. y ∷ drop (i + 1) xs) (sym is))

front_more : {A : Type 0} (xs : List A) (i : ℕ) (x : A) → i < length xs → x ≡ get_or xs i x → take (i + 1) xs ≡ take i xs ++ x ∷ []
front_more xs i x within is = take_more xs i x within ∙ ap (λ y. take i xs ++ y ∷ []) (sym is)

-- so many octets more
both : {A : Type 0} (f : A → List ℕ) (xs ys : List A) → length (flat_map f (xs ++ ys)) ≡ length (flat_map f xs) + length (flat_map f ys)
both f xs ys = ap length (flat_map-append f xs ys) ∙ length-append (flat_map f xs) (flat_map f ys)

one : {A : Type 0} (f : A → List ℕ) (x : A) (ys : List A) → length (flat_map f (x ∷ ys)) ≡ length (f x) + length (flat_map f ys)
one f x ys = length-append (f x) (flat_map f ys)

-- a list's front and what stands behind it have no more octets than the list
front_and_one : {A : Type 0} (f : A → List ℕ) (whole front rest : List A) (x : A) → whole ≡ front ++ x ∷ rest → length (flat_map f front) + length (f x) ≤ length (flat_map f whole)
front_and_one f whole front rest x e =
    omega (arith, ap (λ ys. length (flat_map f ys)) e, both f front (x ∷ rest), one f x rest)

pub front_and_more : (whole front rest xs : List Record) → whole ≡ front ++ (xs ++ rest) → length (octets_of front) + length (octets_of xs) ≤ length (octets_of whole)
front_and_more whole front rest xs e =
    omega (arith, ap (λ (ys : List Record). length (octets_of ys)) e, both record_octets front (xs ++ rest), both record_octets xs rest)

-- records with their TTLs cut, one by one
pub cut_apart : (xs : List Record) (i : ℕ) (x : Record) (f : Record → Record) → i < length xs → x ≡ get_or xs i x → map f xs ≡ map f (take i xs) ++ f x ∷ map f (drop (i + 1) xs)
cut_apart xs i x f within is = ap (map f) (apart xs i x within is) ∙ map-append f (take i xs) (x ∷ drop (i + 1) xs)

pub cut_more : (xs : List Record) (i : ℕ) (x : Record) (f : Record → Record) → i < length xs → x ≡ get_or xs i x → map f (take (i + 1) xs) ≡ map f (take i xs) ++ f x ∷ []
cut_more xs i x f within is = ap (map f) (front_more xs i x within is) ∙ map-append f (take i xs) (x ∷ [])

-- groups, one by one
module _ {G : Type 0} (view : G → Bounded) (gs : List G) (i : ℕ) (g : G) (within : i < length gs) (is : g ≡ get_or gs i g) where
  pub groups_apart : section_of (map view gs) ≡ section_of (map view (take i gs)) ++ (members (cut_group (view g)) ++ section_of (map view (drop (i + 1) gs)))
  groups_apart =
      ap (λ (hs : List G). section_of (map view hs)) (apart gs i g within is)
      ∙ (ap section_of (map-append view (take i gs) (g ∷ drop (i + 1) gs)) ∙ flat_map-append (λ b. members (cut_group b)) (map view (take i gs)) (view g ∷ map view (drop (i + 1) gs)))

  pub groups_more : section_of (map view (take (i + 1) gs)) ≡ section_of (map view (take i gs)) ++ members (cut_group (view g))
  groups_more =
      ap (λ (hs : List G). section_of (map view hs)) (front_more gs i g within is)
      ∙ (ap section_of (map-append view (take i gs) (g ∷ []))
      ∙ (flat_map-append (λ b. members (cut_group b)) (map view (take i gs)) (view g ∷ [])
      ∙ ap (λ (ys : List Record). section_of (map view (take i gs)) ++ ys) (append-nil (members (cut_group (view g))))))

-- the octets of what a group leaves
members_long : (g : Group) → length (octets_of (members g)) ≡ length (octets_of g.records) + length (octets_of g.signatures) + length (octets_of g.extra)
members_long g = omega (arith, both record_octets (g.records ++ g.signatures) g.extra, both record_octets g.records g.signatures)

-- the answer section
module _ (was : Written) where
  pub answers_more : (now more : Written) (front xs all : List Record) → now ≡ with_answers was front → more ≡ with_answers now xs → all ≡ front ++ xs → more ≡ with_answers was all
  answers_more now more front xs all so_far pushed is =
      pushed ∙ (ap (λ (w : Written). with_answers w xs) so_far
      ∙ ap (λ (ys : List Record). record { id = was.id; flags = was.flags; questions = was.questions; answers = ys; authorities = was.authorities; additionals = was.additionals })
      (append_assoc was.answers front xs ∙ ap (λ (ys : List Record). was.answers ++ ys) (sym is)))

  pub answers_long : (now : Written) (front : List Record) → now ≡ with_answers was front → length (message_octets now) ≡ length (message_octets was) + length (octets_of front)
  answers_long now front so_far =
      ap (λ (w : Written). length (message_octets w)) so_far
      ∙ omega (arith, length-message_octets (with_answers was front), length-message_octets was, both record_octets was.answers front)

  pub answers_signatures_full : (now : Written) (b : Bounded) (rs ss : List Record) → rs ≡ b.group.records → ss ≡ b.group.signatures → now ≡ with_answers was (map (cut b.bound) rs)
      → 65535 < length (message_octets now) + length (octets_of (map (cut b.bound) ss)) → 65535 < length (message_octets was) + length (octets_of (members (cut_group b)))
  answers_signatures_full now b rs ss er es so_far full =
      omega (
        arith,
        full,
        answers_long now (map (cut b.bound) rs) so_far,
        members_long (cut_group b),
        ap (λ (xs : List Record). length (octets_of (map (cut b.bound) xs))) er,
        ap (λ (xs : List Record). length (octets_of (map (cut b.bound) xs))) es,
      )

  pub answers_extra_full : (last now : Written) (b : Bounded) (rs ss xs : List Record) → rs ≡ b.group.records → ss ≡ b.group.signatures → xs ≡ b.group.extra
      → last ≡ with_answers was (map (cut b.bound) rs) → now ≡ with_answers last (map (cut b.bound) ss)
      → 65535 < length (message_octets now) + length (octets_of (map (cut b.bound) xs)) → 65535 < length (message_octets was) + length (octets_of (members (cut_group b)))
  answers_extra_full last now b rs ss xs er es ex before so_far full =
      let two : now ≡ with_answers was (map (cut b.bound) rs ++ map (cut b.bound) ss) = answers_more last now (map (cut b.bound) rs) (map (cut b.bound) ss) (map (cut b.bound) rs ++ map (cut b.bound) ss) before so_far refl in
      omega (
        arith,
        full,
        answers_long now (map (cut b.bound) rs ++ map (cut b.bound) ss) two,
        both record_octets (map (cut b.bound) rs) (map (cut b.bound) ss),
        members_long (cut_group b),
        ap (λ (ys : List Record). length (octets_of (map (cut b.bound) ys))) er,
        ap (λ (ys : List Record). length (octets_of (map (cut b.bound) ys))) es,
        ap (λ (ys : List Record). length (octets_of (map (cut b.bound) ys))) ex,
      )

  pub answers_group_full : {G : Type 0} (view : G → Bounded) (gs : List G) (i : ℕ) (g : G) (now : Written) → now ≡ with_answers was (section_of (map view (take i gs))) → i < length gs → g ≡ get_or gs i g
      → 65535 < length (message_octets now) + length (octets_of (members (cut_group (view g)))) → 65535 < length (message_octets was) + length (octets_of (section_of (map view gs)))
  answers_group_full view gs i g now so_far within is full =
      omega (
        arith,
        full,
        answers_long now (section_of (map view (take i gs))) so_far,
        front_and_more (section_of (map view gs)) (section_of (map view (take i gs))) (section_of (map view (drop (i + 1) gs))) (members (cut_group (view g))) (groups_apart view gs i g within is),
      )

  pub answers_full : (now : Written) (xs : List Record) (i : ℕ) (x copy : Record) (f : Record → Record) → now ≡ with_answers was (map f (take i xs)) → i < length xs → x ≡ get_or xs i x → copy ≡ f x
      → 65535 < length (message_octets now) + length (record_octets copy) → 65535 < length (message_octets was) + length (octets_of (map f xs))
  answers_full now xs i x copy f so_far within is same full =
      let size : length (record_octets copy) ≡ length (record_octets (f x)) = ap (λ (r : Record). length (record_octets r)) same in
      omega (arith, full, size, answers_long now (map f (take i xs)) so_far, front_and_one record_octets (map f xs) (map f (take i xs)) (map f (drop (i + 1) xs)) (f x) (cut_apart xs i x f within is))

  pub authorities_more : (now more : Written) (front xs all : List Record) → now ≡ with_authorities was front → more ≡ with_authorities now xs → all ≡ front ++ xs → more ≡ with_authorities was all
  authorities_more now more front xs all so_far pushed is =
      pushed ∙ (ap (λ (w : Written). with_authorities w xs) so_far
      ∙ ap (λ (ys : List Record). record { id = was.id; flags = was.flags; questions = was.questions; answers = was.answers; authorities = ys; additionals = was.additionals })
      (append_assoc was.authorities front xs ∙ ap (λ (ys : List Record). was.authorities ++ ys) (sym is)))

  pub authorities_long : (now : Written) (front : List Record) → now ≡ with_authorities was front → length (message_octets now) ≡ length (message_octets was) + length (octets_of front)
  authorities_long now front so_far =
      ap (λ (w : Written). length (message_octets w)) so_far
      ∙ omega (arith, length-message_octets (with_authorities was front), length-message_octets was, both record_octets was.authorities front)

  pub authorities_signatures_full : (now : Written) (b : Bounded) (rs ss : List Record) → rs ≡ b.group.records → ss ≡ b.group.signatures → now ≡ with_authorities was (map (cut b.bound) rs)
      → 65535 < length (message_octets now) + length (octets_of (map (cut b.bound) ss)) → 65535 < length (message_octets was) + length (octets_of (members (cut_group b)))
  authorities_signatures_full now b rs ss er es so_far full =
      omega (
        arith,
        full,
        authorities_long now (map (cut b.bound) rs) so_far,
        members_long (cut_group b),
        ap (λ (xs : List Record). length (octets_of (map (cut b.bound) xs))) er,
        ap (λ (xs : List Record). length (octets_of (map (cut b.bound) xs))) es,
      )

  pub authorities_extra_full : (last now : Written) (b : Bounded) (rs ss xs : List Record) → rs ≡ b.group.records → ss ≡ b.group.signatures → xs ≡ b.group.extra
      → last ≡ with_authorities was (map (cut b.bound) rs) → now ≡ with_authorities last (map (cut b.bound) ss)
      → 65535 < length (message_octets now) + length (octets_of (map (cut b.bound) xs)) → 65535 < length (message_octets was) + length (octets_of (members (cut_group b)))
  authorities_extra_full last now b rs ss xs er es ex before so_far full =
      let two : now ≡ with_authorities was (map (cut b.bound) rs ++ map (cut b.bound) ss) = authorities_more last now (map (cut b.bound) rs) (map (cut b.bound) ss) (map (cut b.bound) rs ++ map (cut b.bound) ss) before so_far refl in
      omega (
        arith,
        full,
        authorities_long now (map (cut b.bound) rs ++ map (cut b.bound) ss) two,
        both record_octets (map (cut b.bound) rs) (map (cut b.bound) ss),
        members_long (cut_group b),
        ap (λ (ys : List Record). length (octets_of (map (cut b.bound) ys))) er,
        ap (λ (ys : List Record). length (octets_of (map (cut b.bound) ys))) es,
        ap (λ (ys : List Record). length (octets_of (map (cut b.bound) ys))) ex,
      )

  pub authorities_group_full : {G : Type 0} (view : G → Bounded) (gs : List G) (i : ℕ) (g : G) (now : Written) → now ≡ with_authorities was (section_of (map view (take i gs))) → i < length gs → g ≡ get_or gs i g
      → 65535 < length (message_octets now) + length (octets_of (members (cut_group (view g)))) → 65535 < length (message_octets was) + length (octets_of (section_of (map view gs)))
  authorities_group_full view gs i g now so_far within is full =
      omega (
        arith,
        full,
        authorities_long now (section_of (map view (take i gs))) so_far,
        front_and_more (section_of (map view gs)) (section_of (map view (take i gs))) (section_of (map view (drop (i + 1) gs))) (members (cut_group (view g))) (groups_apart view gs i g within is),
      )

  pub authorities_full : (now : Written) (xs : List Record) (i : ℕ) (x copy : Record) (f : Record → Record) → now ≡ with_authorities was (map f (take i xs)) → i < length xs → x ≡ get_or xs i x → copy ≡ f x
      → 65535 < length (message_octets now) + length (record_octets copy) → 65535 < length (message_octets was) + length (octets_of (map f xs))
  authorities_full now xs i x copy f so_far within is same full =
      let size : length (record_octets copy) ≡ length (record_octets (f x)) = ap (λ (r : Record). length (record_octets r)) same in
      omega (arith, full, size, authorities_long now (map f (take i xs)) so_far, front_and_one record_octets (map f xs) (map f (take i xs)) (map f (drop (i + 1) xs)) (f x) (cut_apart xs i x f within is))

  pub additionals_more : (now more : Written) (xs : List Record) (i : ℕ) (x : Record) → now ≡ with_additionals was (take i xs) → more ≡ with_additional now x → i < length xs → x ≡ get_or xs i x → more ≡ with_additionals was (take (i + 1) xs)
  additionals_more now more xs i x so_far pushed within is =
      pushed ∙ (ap (λ (w : Written). with_additional w x) so_far
      ∙ ap (λ (ys : List Record). record { id = was.id; flags = was.flags; questions = was.questions; answers = was.answers; authorities = was.authorities; additionals = ys })
      (append_assoc was.additionals (take i xs) (x ∷ []) ∙ ap (λ (ys : List Record). was.additionals ++ ys) (sym (front_more xs i x within is))))

  pub additionals_long : (xs : List Record) → length (message_octets (with_additionals was xs)) ≡ length (message_octets was) + length (octets_of xs)
  additionals_long xs = omega (arith, length-message_octets (with_additionals was xs), length-message_octets was, both record_octets was.additionals xs)

  pub additionals_full : (now : Written) (xs : List Record) (i : ℕ) (x : Record) → now ≡ with_additionals was (take i xs) → i < length xs → x ≡ get_or xs i x
      → 65535 < length (message_octets now) + length (record_octets x) → 65535 < length (message_octets was) + length (octets_of xs)
  additionals_full now xs i x so_far within is full =
      omega (arith, full, ap (λ (w : Written). length (message_octets w)) so_far, additionals_long (take i xs), front_and_one record_octets xs (take i xs) (drop (i + 1) xs) x (apart xs i x within is))

  pub questions_more : (now more : Written) (xs : List Question) (i : ℕ) (x : Question) → now ≡ with_questions was (take i xs) → more ≡ with_question now x → i < length xs → x ≡ get_or xs i x → more ≡ with_questions was (take (i + 1) xs)
  questions_more now more xs i x so_far pushed within is =
      pushed ∙ (ap (λ (w : Written). with_question w x) so_far
      ∙ ap (λ (ys : List Question). record { id = was.id; flags = was.flags; questions = ys; answers = was.answers; authorities = was.authorities; additionals = was.additionals })
      (append_assoc was.questions (take i xs) (x ∷ []) ∙ ap (λ (ys : List Question). was.questions ++ ys) (sym (front_more xs i x within is))))

  pub questions_long : (xs : List Question) → length (message_octets (with_questions was xs)) ≡ length (message_octets was) + length (asked_octets xs)
  questions_long xs = omega (arith, length-message_octets (with_questions was xs), length-message_octets was, both question_octets was.questions xs)

  pub questions_full : (now : Written) (xs : List Question) (i : ℕ) (x : Question) → now ≡ with_questions was (take i xs) → i < length xs → x ≡ get_or xs i x
      → 65535 < length (message_octets now) + length (question_octets x) → 65535 < length (message_octets was) + length (asked_octets xs)
  questions_full now xs i x so_far within is full =
      omega (arith, full, ap (λ (w : Written). length (message_octets w)) so_far, questions_long (take i xs), front_and_one question_octets xs (take i xs) (drop (i + 1) xs) x (apart xs i x within is))

-- a refusal is the same where another value would have come
pub refused_as : {T U E : Type 0} (a b : E) → ◌≡◌ {A = Result T E} (Err a) (Err b) → ◌≡◌ {A = Result U E} (Err a) (Err b)
refused_as a b e = let same : a ≡ b = cc in ap (λ x. Err x) same

-- where a section of a message has no room, the message passes 65535 octets
module _ (w : Written) where
  pub first_is_full : (now : Written) → now ≡ record { id = w.id; flags = w.flags; questions = []; answers = []; authorities = []; additionals = [] }
      → 65535 < length (message_octets now) + length (asked_octets w.questions) → 65535 < length (message_octets w)
  first_is_full now so_far full =
      omega (
        arith,
        full,
        ap (λ (v : Written). length (message_octets v)) so_far,
        length-message_octets w,
        length-message_octets (record { id = w.id; flags = w.flags; questions = []; answers = []; authorities = []; additionals = [] }),
      )

  pub second_is_full : (now : Written) → now ≡ record { id = w.id; flags = w.flags; questions = w.questions; answers = []; authorities = []; additionals = [] }
      → 65535 < length (message_octets now) + length (octets_of w.answers) → 65535 < length (message_octets w)
  second_is_full now so_far full =
      omega (
        arith,
        full,
        ap (λ (v : Written). length (message_octets v)) so_far,
        length-message_octets w,
        length-message_octets (record { id = w.id; flags = w.flags; questions = w.questions; answers = []; authorities = []; additionals = [] }),
      )

  pub third_is_full : (now : Written) → now ≡ record { id = w.id; flags = w.flags; questions = w.questions; answers = w.answers; authorities = []; additionals = [] }
      → 65535 < length (message_octets now) + length (octets_of w.authorities) → 65535 < length (message_octets w)
  third_is_full now so_far full =
      omega (
        arith,
        full,
        ap (λ (v : Written). length (message_octets v)) so_far,
        length-message_octets w,
        length-message_octets (record { id = w.id; flags = w.flags; questions = w.questions; answers = w.answers; authorities = []; additionals = [] }),
      )

  pub last_is_full : (now : Written) → now ≡ record { id = w.id; flags = w.flags; questions = w.questions; answers = w.answers; authorities = w.authorities; additionals = [] }
      → 65535 < length (message_octets now) + length (octets_of w.additionals) → 65535 < length (message_octets w)
  last_is_full now so_far full =
      omega (
        arith,
        full,
        ap (λ (v : Written). length (message_octets v)) so_far,
        length-message_octets w,
        length-message_octets (record { id = w.id; flags = w.flags; questions = w.questions; answers = w.answers; authorities = w.authorities; additionals = [] }),
      )
