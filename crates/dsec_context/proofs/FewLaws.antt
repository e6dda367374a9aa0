-- How many groups a message has, and how many sets of a reply are checked: no more than a header says records, and two.
use Rattle.std.proofs.Common.{◌≡◌, ℕ, zero, suc, ◌+◌, ◌≤◌, ◌==◌, Bool, true, false, cond, List, [], ◌∷◌, ◌++◌, length, Option, Some, None, Result, Ok, Err, refl, sym, ap, ◌∙◌, subst, arith}
use Rattle.std.specs.Prelude.{filter, is_some}
use Rattle.std.proofs.Math.Bool.{not}
use Rattle.std.proofs.lemmas.List.{length-append, length-map}
use Rattle.dsec_spec.specs.Reading.{many_of}
use Rattle.dsec_spec.specs.Records.{Record}
use Rattle.dsec_spec.specs.Numbers.{DS}
use Rattle.dsec_spec.specs.Messages.{Question, Header, header_of, questions_of, answers_of, authorities_of, record_at}
use Rattle.dsec_spec.specs.Groups.{Group, firsts, of_one_group, groups_of}
use Rattle.dsec_spec.specs.Redirection.{followed, followers, with_followers, staying_from, has_too_many, moved}
use Rattle.dsec_spec.proofs.ReadingLemmas.{from_bind}
use Rattle.dsec_child.specs.Belows.{most_checked}
use Rattle.dsec_nodes.specs.Alone.{Refusal, sections_of}
use Rattle.dsec_nodes.specs.Machine.{Question as Asked}
use Rattle.dsec_nodes.specs.Replies.{sections_by, both_of, read_reply}
use Rattle.dsec_course.specs.Course.{Course}
use Rattle.dsec_course.specs.Advancing.{begun_with, begun_by, begun}
use Rattle.dsec_course.proofs.BeginningLaws.{begun_waits}
use Rattle.dsec_context.specs.Calls.{count_of}
use Rattle.dsec_walk.specs.Checks.{sets_in}

-- so many things are read
many_length : {A : Type 0} (read : ℕ → Option (A × ℕ)) (n at : ℕ) (r : List A × ℕ) → many_of read n at ≡ Some r → length r.0 ≡ n
unfolding many_of
many_length read zero at r e = let same : ([], at) ≡ r = cc in ap (λ p. length p.0) (sym same)
many_length {A} read (suc n) at r e =
    let first = from_bind (read at) _ r e in
    let others = from_bind (many_of read n first.0.1) _ r first.2 in
    let same : (first.0.0 ∷ others.0.0, others.0.1) ≡ r = cc in
    ap (λ (p : List A × ℕ). length p.0) (sym same) ∙ ap (λ (k : ℕ). suc k) (many_length read n first.0.1 others.0 others.1)

answers_few : (message : List ℕ) (h : Header) (r : List Record × ℕ) → header_of message ≡ Some h → answers_of message ≡ Some r → length r.0 ≡ h.answers
unfolding answers_of
answers_few message h r is e =
    let header = from_bind (header_of message) _ r e in
    let before = from_bind (questions_of message) _ r header.2 in
    let same : header.0 ≡ h = cc in
    many_length (record_at message) header.0.answers before.0.1 r before.2 ∙ ap (λ (x : Header). x.answers) same

authorities_few : (message : List ℕ) (h : Header) (r : List Record × ℕ) → header_of message ≡ Some h → authorities_of message ≡ Some r
    → length r.0 ≡ h.authorities
unfolding authorities_of
authorities_few message h r is e =
    let header = from_bind (header_of message) _ r e in
    let before = from_bind (answers_of message) _ r header.2 in
    let same : header.0 ≡ h = cc in
    many_length (record_at message) header.0.authorities before.0.1 r before.2 ∙ ap (λ (x : Header). x.authorities) same

filter_few : {A : Type 0} (test : A → Bool) (xs : List A) → length (filter test xs) ≤ length xs
filter_few test [] = omega arith
filter_few {A} test (x ∷ xs) = by (test x) (filter_few test xs)
  where
    by : (b : Bool) → length (filter test xs) ≤ length xs → length (cond {A = List A} b (x ∷ filter test xs) (filter test xs)) ≤ suc (length xs)
    by true h = omega (arith, h)
    by false h = omega (arith, h)

firsts_few : {A : Type 0} (alike : A → A → Bool) (xs : List A) → length (firsts alike xs) ≤ length xs
unfolding firsts
firsts_few alike [] = omega arith
firsts_few alike (x ∷ xs) = omega (arith, filter_few (λ y. not (alike x y)) (firsts alike xs), firsts_few alike xs)

groups_few : (section : List Record) → length (groups_of section) ≤ length section
groups_few section =
    let l = length-map (firsts of_one_group section) (λ first. Rattle.dsec_spec.specs.Groups.group_of first (filter (of_one_group first) section)) in
    omega (arith, l, firsts_few of_one_group section)

staying_few : (anchors : List Record) (groups gs : List Group) (n : ℕ) → length (staying_from anchors groups n gs) ≤ length gs
unfolding staying_from
staying_few anchors groups [] n = omega arith
staying_few anchors groups (g ∷ gs) n = by (is_some (followed anchors groups g)) (staying_few anchors groups gs (suc n))
  where
    by : (b : Bool) → length (staying_from anchors groups (suc n) gs) ≤ length gs
        → length (cond {A = List Group} b [] (with_followers g (followers anchors groups n) ∷ []) ++ staying_from anchors groups (suc n) gs) ≤ suc (length gs)
    by true h = omega (arith, h)
    by false h = omega (arith, h)

moved_few : (anchors : List Record) (most : ℕ) (groups answers : List Group) → moved anchors most groups ≡ Some answers → length answers ≤ length groups
moved_few anchors most groups answers e = by (has_too_many most groups) e
  where
    by : (b : Bool) → cond {A = Option (List Group)} b None (Some (staying_from anchors groups 0 groups)) ≡ Some answers → length answers ≤ length groups
    by true f = absurd cc
    by false f =
        let same : staying_from anchors groups 0 groups ≡ answers = cc in
        subst (λ (gs : List Group). length gs ≤ length groups) same (staying_few anchors groups groups 0)

abbrev begins : Course → Result Course Refusal
begins c = Ok c

-- no more groups are to be judged than the sections have records
left_few : (anchors : List Record) (most : ℕ) (message : List ℕ) (s : List Question × List Record × List Record) (c : Course) → begun_by anchors most message (Some s) ≡ Ok c
    → length c.left ≤ length s.1 + length s.2
left_few anchors most message s c e = by_moved (moved anchors most (groups_of s.1)) refl e
  where
    by_moved : (o : Option (List Group)) → moved anchors most (groups_of s.1) ≡ o → begins (begun_with most message s.0 o (groups_of s.2)) ≡ Ok c
        → length c.left ≤ length s.1 + length s.2
    by_moved None m f =
        let same : begun_with most message s.0 None (groups_of s.2) ≡ c = cc in
        let l = ap (λ (x : Course). length x.left) same in
        omega (arith, l)
    by_moved (Some answers) m f =
        let same : begun_with most message s.0 (Some answers) (groups_of s.2) ≡ c = cc in
        let l = ap (λ (x : Course). length x.left) same in
        let parts = length-append answers (groups_of s.2) in
        omega (arith, l, parts, moved_few anchors most (groups_of s.1) answers m, groups_few s.1, groups_few s.2)

-- A message has no more groups than its header says records of both sections
pub groups_counted : (anchors : List Record) (most : ℕ) (message : List ℕ) (h : Header) → header_of message ≡ Some h → count_of (begun anchors most message) ≤ h.answers + h.authorities
groups_counted anchors most message h is = by (begun anchors most message) refl
  where
    by_sections : (c : Course) → begun anchors most message ≡ Ok c → (o : Option (List Question × List Record × List Record)) → sections_of message ≡ o
        → begun_by anchors most message o ≡ Ok c → length c.left ≤ h.answers + h.authorities
    by_sections c e None f g = absurd cc
    by_sections c e (Some s) f g =
        let authorities = from_bind (authorities_of message) _ s f in
        let answers = from_bind (answers_of message) _ s authorities.2 in
        let questions = from_bind (questions_of message) _ s answers.2 in
        let same : (questions.0.0, answers.0.0, authorities.0.0) ≡ s = cc in
        let a = ap (λ (x : List Question × List Record × List Record). length x.1) same in
        let b = ap (λ (x : List Question × List Record × List Record). length x.2) same in
        omega (arith, left_few anchors most message s c g, a, b, answers_few message h answers.0 is answers.1, authorities_few message h authorities.0 is authorities.1)

    by : (r : Result Course Refusal) → begun anchors most message ≡ r → count_of r ≤ h.answers + h.authorities
    by (Err e) f = omega arith
    by (Ok c) f =
        let l = ap length (begun_waits anchors most message c f).groups_are in
        omega (arith, l, by_sections c f (sections_of message) refl f)

-- Of the reply to a question no more sets are checked than its header says records of the authority section, and two
pub sets_counted : (q : Asked) (octets : List ℕ) (h : Header) → q.reply ≡ Some octets → header_of octets ≡ Some h → sets_in q ≤ 2 + h.authorities
sets_counted q octets h e is = by (q.rtype == DS)
  where
    by_sections : (o : Option (List Record × List Record)) → both_of octets ≡ o → most_checked (sections_by o) ≤ 2 + h.authorities
    by_sections None f = omega arith
    by_sections (Some s) f =
        let authorities = from_bind (authorities_of octets) _ s f in
        let answers = from_bind (answers_of octets) _ s authorities.2 in
        let same : (answers.0.0, authorities.0.0) ≡ s = cc in
        let l = ap (λ (x : List Record × List Record). length x.1) same in
        omega (arith, l, groups_few s.1, authorities_few octets h authorities.0 is authorities.1)

    reply : most_checked (read_reply q.reply) ≤ 2 + h.authorities
    reply = subst (λ (o : Option (List ℕ)). most_checked (read_reply o) ≤ 2 + h.authorities) (sym e) (by_sections (both_of octets) refl)

    by : (b : Bool) → cond {A = ℕ} b (most_checked (read_reply q.reply)) 1 ≤ 2 + h.authorities
    by true = reply
    by false = omega arith
