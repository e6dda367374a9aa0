-- Octets at the front of zone text: what is read is what is written, and the other way round.
use Rattle.std.proofs.Common.{◌≡◌, ℕ, zero, suc, ◌+◌, ◌<◌, ◌≤◌, List, [], ◌∷◌, ◌++◌, length, drop, refl, sym, ap, ◌∙◌, arith, length-append, append_assoc}
use Rattle.std.specs.Prelude.{Bool, Option, Some, None}
use Rattle.std.proofs.lemmas.List.{append-nil, length-drop, drop_at}
use Rattle.dsec_text.specs.Escapes.{WritesOctets, octet_at, with_octet, front_after, front_within, front}
use Rattle.dsec_text.specs.Escapes.WritesOctets.{none, more}
use Rattle.dsec_text.proofs.EscapeText.{octet_written, octet_read, octet_sized}

room_after : (n m : ℕ) (quoted : Bool) (text : List ℕ) (read : Option (ℕ × ℕ)) → ((p : ℕ × ℕ) → read ≡ Some p → front_within n quoted (drop p.1 text) ≡ front_within m quoted (drop p.1 text)) → front_after (front_within n quoted) text read ≡ front_after (front_within m quoted) text read
room_after n m quoted text None same = refl
room_after n m quoted text (Some p) same = ap (with_octet p) (same p refl)

shorter : (n : ℕ) (text : List ℕ) (k : ℕ) → length text ≤ n + 1 → (0 < k) × (k ≤ length text) → length (drop k text) ≤ n
shorter n text k l s = omega (arith, length-drop k text, s.0, s.1)

room : (n m : ℕ) (quoted : Bool) (text : List ℕ) → length text ≤ n → length text ≤ m → front_within n quoted text ≡ front_within m quoted text
room zero zero quoted text a b = refl
room zero (suc m) quoted [] a b = refl
room zero (suc m) quoted (c ∷ text) a b = absurd (omega arith)
room (suc n) zero quoted [] a b = refl
room (suc n) zero quoted (c ∷ text) a b = absurd (omega arith)
room (suc n) (suc m) quoted text a b =
    room_after n m quoted text (octet_at quoted text)
    (λ p e. let s = octet_sized quoted text p e in room n m quoted (drop p.1 text) (shorter n text p.1 (omega arith) s) (shorter m text p.1 (omega arith) s))

step_after : (n : ℕ) (quoted : Bool) (text : List ℕ) (read : Option (ℕ × ℕ)) → ((p : ℕ × ℕ) → read ≡ Some p → front_within n quoted (drop p.1 text) ≡ front quoted (drop p.1 text)) → front_after (front_within n quoted) text read ≡ front_after (front quoted) text read
step_after n quoted text None same = refl
step_after n quoted text (Some p) same = ap (with_octet p) (same p refl)

-- an octet, and the others
pub front_step : (quoted : Bool) (text : List ℕ) → front quoted text ≡ front_after (front quoted) text (octet_at quoted text)
front_step quoted [] = refl
front_step quoted (c ∷ text) =
    step_after (length text) quoted (c ∷ text) (octet_at quoted (c ∷ text))
    (λ p e. let s = octet_sized quoted (c ∷ text) p e in
    room (length text) (length (drop p.1 (c ∷ text))) quoted (drop p.1 (c ∷ text)) (shorter (length text) (c ∷ text) p.1 (omega arith) s) (omega arith))

pub front_more : (quoted : Bool) (text : List ℕ) (p : ℕ × ℕ) → octet_at quoted text ≡ Some p → front quoted text ≡ with_octet p (front quoted (drop p.1 text))
front_more quoted text p e = front_step quoted text ∙ ap (front_after (front quoted) text) e

pub front_ends : (quoted : Bool) (text : List ℕ) → octet_at quoted text ≡ None → front quoted text ≡ ([], 0)
front_ends quoted text e = front_step quoted text ∙ ap (front_after (front quoted) text) e

-- the front of a text writes these octets
pub record HasFront (quoted : Bool) (text : List ℕ) (p : List ℕ × ℕ) : Type 0 where
  pub first : List ℕ
  pub rest : List ℕ
  pub writes : WritesOctets quoted p.0 first
  pub size : p.1 ≡ length first
  pub is : text ≡ first ++ rest

written_after : (n : ℕ) (quoted : Bool) (text : List ℕ) (read : Option (ℕ × ℕ)) → ((p : ℕ × ℕ) → octet_at quoted text ≡ Some p → HasFront quoted (drop p.1 text) (front_within n quoted (drop p.1 text))) → octet_at quoted text ≡ read → HasFront quoted text (front_after (front_within n quoted) text read)
written_after n quoted text None next e = record { first = []; rest = text; writes = none; size = refl; is = refl }
written_after n quoted text (Some p) next e =
    let h = octet_written quoted text p e in
    let l = next p e in
    let after : drop p.1 text ≡ h.rest = ap (drop p.1) h.is ∙ drop_at h.first h.rest p.1 (sym h.size) in
    record {
      first = h.first ++ l.first;
      rest = l.rest;
      writes = more p.0 _ h.first l.first h.writes l.writes;
      size = (let a = h.size in let b = l.size in omega (arith, length-append h.first l.first));
      is = h.is ∙ (ap (λ (x : List ℕ). h.first ++ x) (sym after ∙ l.is) ∙ sym (append_assoc h.first l.first l.rest));
    }

written : (n : ℕ) (quoted : Bool) (text : List ℕ) → HasFront quoted text (front_within n quoted text)
written zero quoted text = record { first = []; rest = text; writes = none; size = refl; is = refl }
written (suc n) quoted text = written_after n quoted text (octet_at quoted text) (λ p e. written n quoted (drop p.1 text)) refl

-- what is read is written
pub front_written : (quoted : Bool) (text : List ℕ) → HasFront quoted text (front quoted text)
front_written quoted text = written (length text) quoted text

pub front_within-length : (quoted : Bool) (text : List ℕ) → (front quoted text).1 ≤ length text
front_within-length quoted text =
    let h = front_written quoted text in
    let l = ap (λ (x : List ℕ). length x) h.is in
    let s = h.size in
    omega (arith, length-append h.first h.rest)

-- what is written is read, where no octet is written behind it
pub front_read : (quoted : Bool) (octets first rest : List ℕ) → WritesOctets quoted octets first → octet_at quoted rest ≡ None → front quoted (first ++ rest) ≡ (octets, length first)
front_read quoted _ _ rest none e = front_ends quoted rest e
front_read quoted _ _ rest (more octet octets first others w ws) e =
    let next = front_read quoted octets others rest ws e in
    let here = octet_read quoted octet first (others ++ rest) w in
    ap (front quoted) (append_assoc first others rest)
    ∙ (front_more quoted (first ++ (others ++ rest)) (octet, length first) here
    ∙ (ap (λ (x : List ℕ). with_octet (octet, length first) (front quoted x)) (drop_at first (others ++ rest) (length first) refl)
    ∙ (ap (with_octet (octet, length first)) next
    ∙ ap (λ (n : ℕ). (octet ∷ octets, n)) (sym (length-append first others)))))

-- a text stands for the octets that it writes
pub octets_written : (quoted : Bool) (octets text : List ℕ) → WritesOctets quoted octets text → (front quoted text).0 ≡ octets
octets_written quoted octets text w =
    ap (λ (x : List ℕ). (front quoted x).0) (sym (append-nil text)) ∙ ap (λ (p : List ℕ × ℕ). p.0) (front_read quoted octets text [] w refl)

-- ---- steps of the code

-- the size goes on by an octet
pub size_step : (quoted : Bool) (text rest after : List ℕ) (p : ℕ × ℕ) (size : ℕ) → Some p ≡ octet_at quoted rest → after ≡ drop p.1 rest
    → size + (front quoted rest).1 ≡ (front quoted text).1 → size + p.1 + (front quoted after).1 ≡ (front quoted text).1
size_step quoted text rest after p size e f inv =
    let next = ap (λ (x : List ℕ × ℕ). x.1) (front_more quoted rest p (sym e)) in
    rw f (omega (arith, next, inv))

pub size_end : (quoted : Bool) (text rest : List ℕ) (size : ℕ) → None ≡ octet_at quoted rest → size + (front quoted rest).1 ≡ (front quoted text).1 → size ≡ (front quoted text).1
size_end quoted text rest size e inv =
    let next = ap (λ (x : List ℕ × ℕ). x.1) (front_ends quoted rest (sym e)) in
    omega (arith, next, inv)

-- the octets go on by one
pub octets_step : (quoted : Bool) (text rest after old new : List ℕ) (p : ℕ × ℕ) → Some p ≡ octet_at quoted rest → after ≡ drop p.1 rest → new ≡ old ++ p.0 ∷ []
    → old ++ (front quoted rest).0 ≡ (front quoted text).0 → new ++ (front quoted after).0 ≡ (front quoted text).0
octets_step quoted text rest after old new p e f pushed inv =
    let next = ap (λ (x : List ℕ × ℕ). x.0) (front_more quoted rest p (sym e)) in
    rw (pushed, f) (append_assoc old (p.0 ∷ []) (front quoted (drop p.1 rest)).0 ∙ (ap (λ (x : List ℕ). old ++ x) (sym next) ∙ inv))

pub octets_end : (quoted : Bool) (text rest octets : List ℕ) → None ≡ octet_at quoted rest → octets ++ (front quoted rest).0 ≡ (front quoted text).0 → octets ≡ (front quoted text).0
octets_end quoted text rest octets e inv =
    let next = ap (λ (x : List ℕ × ℕ). x.0) (front_ends quoted rest (sym e)) in
    sym (append-nil octets) ∙ (ap (λ (x : List ℕ). octets ++ x) (sym next) ∙ inv)
