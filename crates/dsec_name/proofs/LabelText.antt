-- A label's text: what is read is what is written, and the other way round.
use Rattle.std.proofs.Common.{◌≡◌, ℕ, zero, suc, ◌≤◌, List, [], ◌∷◌, ◌++◌, length, refl, sym, ap, ◌∙◌, subst, arith, length-append, append_assoc}
use Rattle.std.specs.Prelude.{Bool, true, false, Option, Some, None, ◌==◌, if◌then◌else◌}
use Rattle.dsec_spec.specs.Reading.{◌>>=◌}
use Rattle.dsec_name.specs.NameText.{WritesOctet, WritesOctets}
use Rattle.dsec_name.specs.NameText.WritesOctets.{none, more}
use Rattle.dsec_name.specs.TextReading.{read_octet, read_label_within, read_label}
use Rattle.dsec_name.proofs.OctetText.{HasOctet, HasHead, nothing, test_yes, octet_written, octet_read, octet_head, octet_shorter}

-- the octets after one that was read
abbrev pub label_after : ℕ → Option (ℕ × List ℕ) → Option (List ℕ × List ℕ)
label_after n read = read >>= λ first. read_label_within n first.1 >>= λ others. Some (first.0 ∷ others.0, others.1)

room_after : (n m : ℕ) (read : Option (ℕ × List ℕ)) → ((p : ℕ × List ℕ) → read ≡ Some p → read_label_within n p.1 ≡ read_label_within m p.1) → label_after n read ≡ label_after m read
room_after n m None same = refl
room_after n m (Some p) same = ap (λ (read : Option (List ℕ × List ℕ)). read >>= λ others. Some (p.0 ∷ others.0, others.1)) (same p refl)

room_label : (n m : ℕ) (text : List ℕ) → length text ≤ n → length text ≤ m → read_label_within n text ≡ read_label_within m text
room_label n m [] a b = refl
room_label zero m (c ∷ text) a b = absurd (omega arith)
room_label (suc n) zero (c ∷ text) a b = absurd (omega arith)
room_label (suc n) (suc m) (c ∷ text) a b =
    ap (λ (read : Option (List ℕ × List ℕ)). if c == 46 then Some ([], c ∷ text) else read)
    (room_after n m (read_octet (c ∷ text)) (λ p e. let s = octet_shorter (c ∷ text) p e in room_label n m p.1 (omega arith) (omega arith)))

-- a label goes on by an octet
pub label_step : (c : ℕ) (text : List ℕ) (p : ℕ × List ℕ) → (c == 46) ≡ false → read_octet (c ∷ text) ≡ Some p → read_label (c ∷ text) ≡ (read_label p.1 >>= λ others. Some (p.0 ∷ others.0, others.1))
label_step c text p dot e =
    let s = octet_shorter (c ∷ text) p e in
    ap (λ (b : Bool). if b then Some ([], c ∷ text) else label_after (length text) (read_octet (c ∷ text))) dot
    ∙ (ap (label_after (length text)) e
    ∙ ap (λ (read : Option (List ℕ × List ℕ)). read >>= λ others. Some (p.0 ∷ others.0, others.1)) (room_label (length text) (length p.1) p.1 (omega arith) (omega arith)))

pub label_bad : (c : ℕ) (text : List ℕ) → (c == 46) ≡ false → read_octet (c ∷ text) ≡ None → read_label (c ∷ text) ≡ None
label_bad c text dot e =
    ap (λ (b : Bool). if b then Some ([], c ∷ text) else label_after (length text) (read_octet (c ∷ text))) dot
    ∙ ap (label_after (length text)) e

-- a `.`, or the end of the text
abbrev pub Stops : List ℕ → Type 0
Stops [] = Unit {0}
Stops (c ∷ text) = c ≡ 46

pub label_stops : (text : List ℕ) → Stops text → read_label text ≡ Some ([], text)
label_stops [] h = refl
label_stops (c ∷ text) h = rw h refl

-- the front of a text writes these octets, and from there on it is at a `.` or the end
pub record HasLabel (label text rest : List ℕ) : Type 0 where
  pub first : List ℕ
  pub writes : WritesOctets label first
  pub is : text ≡ first ++ rest
  pub stops : Stops rest

label_more : (text : List ℕ) (q : ℕ × List ℕ) (p : List ℕ × List ℕ) (read : Option (List ℕ × List ℕ)) → HasOctet q.0 text q.1 → ((r : List ℕ × List ℕ) → read ≡ Some r → HasLabel r.0 q.1 r.1) → (read >>= λ others. Some (q.0 ∷ others.0, others.1)) ≡ Some p → HasLabel p.0 text p.1
label_more text q p None h next e = nothing p e
label_more text q p (Some r) h next e =
    let l = next r refl in
    let same : (q.0 ∷ r.0, r.1) ≡ p = cc in
    subst (λ (x : List ℕ × List ℕ). HasLabel x.0 text x.1) same
    (record {
      first = h.first ++ l.first;
      writes = more q.0 r.0 h.first l.first h.writes l.writes;
      is = h.is ∙ (ap (λ (x : List ℕ). h.first ++ x) l.is ∙ sym (append_assoc h.first l.first r.1));
      stops = l.stops;
    })

label_first : (n : ℕ) (text : List ℕ) (p : List ℕ × List ℕ) (read : Option (ℕ × List ℕ)) → ((q : ℕ × List ℕ) → read ≡ Some q → HasOctet q.0 text q.1) → ((rest : List ℕ) (r : List ℕ × List ℕ) → read_label_within n rest ≡ Some r → HasLabel r.0 rest r.1) → label_after n read ≡ Some p → HasLabel p.0 text p.1
label_first n text p None h next e = nothing p e
label_first n text p (Some q) h next e = label_more text q p (read_label_within n q.1) (h q refl) (next q.1) e

written : (n : ℕ) (text : List ℕ) (p : List ℕ × List ℕ) → read_label_within n text ≡ Some p → HasLabel p.0 text p.1
written n [] p e =
    let same : ([], []) ≡ p = cc in
    subst (λ (x : List ℕ × List ℕ). HasLabel x.0 [] x.1) same (record { first = []; writes = none; is = refl; stops = tt })
written zero (c ∷ text) p e = nothing p e
written (suc n) (c ∷ text) p e =
    elim (c == 46) as (λ t. (c == 46) ≡ t → (if t then Some ([], c ∷ text) else label_after n (read_octet (c ∷ text))) ≡ Some p → HasLabel p.0 (c ∷ text) p.1) [
      | true ↦ λ f g.
          let same : ([], c ∷ text) ≡ p = cc in
          subst (λ (x : List ℕ × List ℕ). HasLabel x.0 (c ∷ text) x.1) same (record { first = []; writes = none; is = refl; stops = test_yes c 46 f })
      | false ↦ λ f g. label_first n (c ∷ text) p (read_octet (c ∷ text)) (octet_written (c ∷ text)) (written n) g
    ] refl e

-- what is read is written
pub label_written : (text : List ℕ) (p : List ℕ × List ℕ) → read_label text ≡ Some p → HasLabel p.0 text p.1
label_written text p e = written (length text) text p e

pub label_shorter : (text : List ℕ) (p : List ℕ × List ℕ) → read_label text ≡ Some p → length p.1 ≤ length text
label_shorter text p e =
    let h = label_written text p e in
    let l = ap (λ (x : List ℕ). length x) h.is in
    omega (arith, length-append h.first p.1)

step_at : (octet : ℕ) (first after : List ℕ) (h : HasHead first) → WritesOctet octet first → read_label (first ++ after) ≡ (read_label after >>= λ others. Some (octet ∷ others.0, others.1))
step_at octet first after h w =
    let here : first ++ after ≡ h.head ∷ (h.tail ++ after) = ap (λ (x : List ℕ). x ++ after) h.is in
    ap read_label here ∙ label_step h.head (h.tail ++ after) (octet, after) h.no_dot (ap read_octet (sym here) ∙ octet_read octet first after w)

-- what is written is read
pub label_read : (label first rest : List ℕ) → WritesOctets label first → Stops rest → read_label (first ++ rest) ≡ Some (label, rest)
label_read _ _ rest none stops = label_stops rest stops
label_read _ _ rest (more octet octets first others w ws) stops =
    ap read_label (append_assoc first others rest)
    ∙ (step_at octet first (others ++ rest) (octet_head octet first w) w
    ∙ ap (λ (read : Option (List ℕ × List ℕ)). read >>= λ after. Some (octet ∷ after.0, after.1)) (label_read octets others rest ws stops))
