-- Why a message isn't rewritten: how many octets it would have doesn't depend on its TTLs.
use Rattle.std.proofs.Common.{◌≡◌, ℕ, ◌+◌, List, [], ◌∷◌, ◌++◌, map, length, Option, Some, None, Bool, true, false, cond, refl, sym, ap, ◌∙◌, arith, length-append}
use Rattle.std.specs.Prelude.{nat_lt, Result, Ok, Err}
use Rattle.std.proofs.lemmas.List.Concat.{flat_map-append}
use Rattle.dsec_spec.specs.Messages.{Header, Question, header_of, record_at, questions_of, answers_of, authorities_of, additionals_of}
use Rattle.dsec_spec.specs.Reading.{◌>>=◌, many_of}
use Rattle.dsec_spec.specs.Records.{Record}
use Rattle.dsec_spec.specs.WrittenMessages.{Written, record_octets, message_octets}
use Rattle.dsec_spec.proofs.WrittenMessageLaws.{length-message_octets, length-record_octets}
use Rattle.dsec_nodes.specs.Alone.{sections_of}
use Rattle.dsec_rewrite.specs.Cutting.{Bounded, cut, cut_group, members, section_of}
use Rattle.dsec_rewrite.specs.Rewriting.{kept_of, made_of, sent, rewriting}
use Rattle.dsec_rewrite.specs.Writing.{octets_of}
use Rattle.dsec_rewrite.specs.declared.error.RewriteError.{RewriteError}
use Rattle.dsec_rewrite.specs.declared.error.RewriteError.TheVariants.{ParseError, PushError}
use Rattle.dsec_context.specs.Writing.{uncut}

-- a record has as many octets whatever its TTL
cut_long : (bound : Option ℕ) (r : Record) → length (record_octets (cut bound r)) ≡ length (record_octets r)
cut_long bound r = length-record_octets (cut bound r) ∙ sym (length-record_octets r)

both_long : (xs ys : List Record) → length (octets_of (xs ++ ys)) ≡ length (octets_of xs) + length (octets_of ys)
both_long xs ys = ap length (flat_map-append record_octets xs ys) ∙ length-append (octets_of xs) (octets_of ys)

all_long : (bound : Option ℕ) (rs : List Record) → length (octets_of (map (cut bound) rs)) ≡ length (octets_of rs)
all_long bound [] = refl
all_long bound (r ∷ rs) =
    omega (arith, cut_long bound r, all_long bound rs, length-append (record_octets (cut bound r)) (octets_of (map (cut bound) rs)), length-append (record_octets r) (octets_of rs))

-- and so has what a group leaves
group_long : (b : Bounded) → length (octets_of (members (cut_group b))) ≡ length (octets_of (members b.group))
group_long b =
    let cut_records = map (cut b.bound) b.group.records in
    let cut_signatures = map (cut b.bound) b.group.signatures in
    let cut_extra = map (cut b.bound) b.group.extra in
    omega (
      arith,
      both_long (cut_records ++ cut_signatures) cut_extra,
      both_long cut_records cut_signatures,
      both_long (b.group.records ++ b.group.signatures) b.group.extra,
      both_long b.group.records b.group.signatures,
      all_long b.bound b.group.records,
      all_long b.bound b.group.signatures,
      all_long b.bound b.group.extra,
    )

section_long : (bs : List Bounded) → length (octets_of (section_of bs)) ≡ length (octets_of (section_of (map uncut (map (λ (b : Bounded). b.group) bs))))
section_long [] = refl
section_long (b ∷ bs) =
    let others = map uncut (map (λ (x : Bounded). x.group) bs) in
    omega (
      arith,
      both_long (members (cut_group b)) (section_of bs),
      both_long (members (cut_group (uncut b.group))) (section_of others),
      group_long b,
      group_long (uncut b.group),
      section_long bs,
    )

made_long : (header : Header) (kept : List Question × List Record) (answers authorities : List Bounded)
    → length (message_octets (made_of header kept answers authorities))
    ≡ length (message_octets (made_of header kept (map uncut (map (λ (b : Bounded). b.group) answers)) (map uncut (map (λ (b : Bounded). b.group) authorities))))
made_long header kept answers authorities =
    let whole_answers = map uncut (map (λ (b : Bounded). b.group) answers) in
    let whole_authorities = map uncut (map (λ (b : Bounded). b.group) authorities) in
    omega (
      arith,
      length-message_octets (made_of header kept answers authorities),
      length-message_octets (made_of header kept whole_answers whole_authorities),
      section_long answers,
      section_long authorities,
    )

-- what passes is refused, whatever else it says
passes_long : (x y : Written) → length (message_octets x) ≡ length (message_octets y) → sent (Some x) ≡ Err PushError → sent (Some y) ≡ Err PushError
passes_long x y e = by (nat_lt 65535 (length (message_octets x))) refl
  where
    by : (b : Bool) → nat_lt 65535 (length (message_octets x)) ≡ b → cond b (Err PushError) (Ok (message_octets x)) ≡ Err PushError → sent (Some y) ≡ Err PushError
    by true f g = ap (λ (t : Bool). cond t (Err PushError) (Ok (message_octets y))) (ap (nat_lt 65535) (sym e) ∙ f)
    by false f g = absurd cc

-- so what passes with TTLs cut passes without
pub too_long : (m : List ℕ) (answers authorities : List Bounded) → rewriting m answers authorities ≡ Err PushError
    → rewriting m (map uncut (map (λ (b : Bounded). b.group) answers)) (map uncut (map (λ (b : Bounded). b.group) authorities)) ≡ Err PushError
too_long m answers authorities = by (header_of m) (kept_of m)
  where
    whole_answers : List Bounded
    whole_answers = map uncut (map (λ (b : Bounded). b.group) answers)

    whole_authorities : List Bounded
    whole_authorities = map uncut (map (λ (b : Bounded). b.group) authorities)

    Refused : Option Header → Option (List Question × List Record) → List Bounded → List Bounded → Type 0
    Refused h k xs ys = sent (h >>= λ header. k >>= λ kept. Some (made_of header kept xs ys)) ≡ Err PushError

    by : (h : Option Header) (k : Option (List Question × List Record)) → Refused h k answers authorities → Refused h k whole_answers whole_authorities
    by None k g = g
    by (Some header) None g = g
    by (Some header) (Some kept) g =
        passes_long (made_of header kept answers authorities) (made_of header kept whole_answers whole_authorities) (made_long header kept answers authorities) g

-- what can't be read up to the authority section can't be read up to the additional one
unread : (m : List ℕ) → header_of m ≡ None → additionals_of m ≡ None
unfolding additionals_of
unread m e = rw e refl

authorities_unread : (m : List ℕ) → authorities_of m ≡ None → additionals_of m ≡ None
unfolding additionals_of
authorities_unread m e = by (header_of m)
  where
    by : (h : Option Header) → (h >>= λ header. authorities_of m >>= λ before. many_of (record_at m) header.additionals before.1) ≡ None
    by None = refl
    by (Some header) = rw e refl

answers_unread : (m : List ℕ) → answers_of m ≡ None → authorities_of m ≡ None
unfolding authorities_of
answers_unread m e = by (header_of m)
  where
    by : (h : Option Header) → (h >>= λ header. answers_of m >>= λ before. many_of (record_at m) header.authorities before.1) ≡ None
    by None = refl
    by (Some header) = rw e refl

questions_unread : (m : List ℕ) → questions_of m ≡ None → answers_of m ≡ None
unfolding answers_of
questions_unread m e = by (header_of m)
  where
    by : (h : Option Header) → (h >>= λ header. questions_of m >>= λ before. many_of (record_at m) header.answers before.1) ≡ None
    by None = refl
    by (Some header) = rw e refl

abbrev Sections : Type 0
Sections = List Question × List Record × List Record

abbrev sections_by : Option (List Record × ℕ) → Option (List Record × ℕ) → Option (List Question × ℕ) → Option Sections
sections_by n a q = do
  authorities ← n
  answers ← a
  questions ← q
  Some (questions.0, answers.0, authorities.0)

pub sections_unread : (m : List ℕ) → sections_of m ≡ None → additionals_of m ≡ None
sections_unread m e = by (authorities_of m) (answers_of m) (questions_of m) refl refl refl e
  where
    by : (n : Option (List Record × ℕ)) (a : Option (List Record × ℕ)) (q : Option (List Question × ℕ)) → authorities_of m ≡ n → answers_of m ≡ a → questions_of m ≡ q
        → sections_by n a q ≡ None → additionals_of m ≡ None
    by None a q f g h i = authorities_unread m f
    by (Some x) None q f g h i = authorities_unread m (answers_unread m g)
    by (Some x) (Some y) None f g h i = authorities_unread m (answers_unread m (questions_unread m h))
    by (Some x) (Some y) (Some z) f g h i = absurd cc

-- what can be read is sent, or too long
not_unread : (b : Bool) (octets : List ℕ) → cond {A = Result (List ℕ) RewriteError} b (Err PushError) (Ok octets) ≡ Err ParseError → ⊥
not_unread true octets i = cc
not_unread false octets i = cc

abbrev kept_by : Option (List Question × ℕ) → Option (List Record × ℕ) → Option (List Question × List Record)
kept_by q x = do
  questions ← q
  additionals ← x
  Some (questions.0, additionals.0)

-- what a rewriting keeps can't be read where an additional record can't, or an item before it
pub kept_unread : (m : List ℕ) (answers authorities : List Bounded) → rewriting m answers authorities ≡ Err ParseError → additionals_of m ≡ None
kept_unread m answers authorities e = by (header_of m) (questions_of m) (additionals_of m) refl refl refl e
  where
    by : (h : Option Header) (q : Option (List Question × ℕ)) (x : Option (List Record × ℕ)) → header_of m ≡ h → questions_of m ≡ q → additionals_of m ≡ x
        → sent (h >>= λ header. kept_by q x >>= λ kept. Some (made_of header kept answers authorities)) ≡ Err ParseError
        → additionals_of m ≡ None
    by None q x f g k i = unread m f
    by (Some header) None x f g k i = authorities_unread m (answers_unread m (questions_unread m g))
    by (Some header) (Some qs) None f g k i = k
    by (Some header) (Some qs) (Some xs) f g k i = absurd (not_unread (nat_lt 65535 (length (message_octets (made_of header (qs.0, xs.0) answers authorities)))) (message_octets (made_of header (qs.0, xs.0) answers authorities)) i)
