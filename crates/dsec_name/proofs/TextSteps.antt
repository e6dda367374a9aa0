-- Steps of the code that reads a name's text.
use Rattle.std.proofs.Common.{◌≡◌, ◌≢◌, ℕ, zero, suc, ◌-◌, ◌<◌, ◌≤◌, List, [], ◌∷◌, ◌++◌, length, get_or, refl, sym, ap, ◌∙◌, arith, length-append, append_assoc}
use Rattle.std.specs.Prelude.{Bool, true, false, ◌||◌, Option, Some, None, slice_set}
use Rattle.std.specs.List.{list_any}
use Rattle.std.proofs.lemmas.List.{append-nil, set_at}
use Rattle.std.proofs.lemmas.List.Concat.{flat_map-append}
use Rattle.std.proofs.lemmas.Bool.Decides.{nat_tests}
use Rattle.dsec_spec.specs.Names.{Labels, label_octets}
use Rattle.dsec_spec.specs.Reading.{◌>>=◌}
use Rattle.dsec_name.specs.Errors.{is_long}
use Rattle.dsec_name.specs.Keys.{labels_octets}
use Rattle.dsec_name.specs.TextReading.{read_octet, read_label, then_labels, read_labels_within, read_labels, after_octets, after_labels}
use Rattle.dsec_name.specs.TextParts.{HasPushed, HasRead}
use Rattle.dsec_name.proofs.OctetText.{nothing, no_test}
use Rattle.dsec_name.proofs.LabelText.{label_step, label_shorter}

after_push : (octets : List ℕ) (octet : ℕ) (read : Option (List ℕ × List ℕ)) → after_octets (octets ++ octet ∷ []) read ≡ after_octets octets (read >>= λ others. Some (octet ∷ others.0, others.1))
after_push octets octet None = refl
after_push octets octet (Some p) = ap (λ (x : List ℕ). Some (x, p.1)) (append_assoc octets (octet ∷ []) p.0)

-- an octet of a label was read
pub push_step : (octets text : List ℕ) (p : ℕ × List ℕ) → get_or text 0 0 ≢ 46 → read_octet text ≡ Some p → after_octets (octets ++ p.0 ∷ []) (read_label p.1) ≡ after_octets octets (read_label text)
push_step octets [] p dot e = nothing p e
push_step octets (c ∷ text) p dot e = after_push octets p.0 (read_label p.1) ∙ ap (after_octets octets) (sym (label_step c text p (no_test c 46 dot) e))

-- a label's octets were read after the place of its length
pub record IsLabelAfter (text old new rest : List ℕ) : Type 0 where
  pub label : List ℕ
  pub read : read_label text ≡ Some (label, rest)
  pub is : new ≡ (old ++ 0 ∷ []) ++ label

label_after_by : (old new rest : List ℕ) (text : List ℕ) (read : Option (List ℕ × List ℕ)) → read_label text ≡ read → Some (new, rest) ≡ after_octets (old ++ 0 ∷ []) read → IsLabelAfter text old new rest
label_after_by old new rest text None f e = absurd cc
label_after_by old new rest text (Some p) f e =
    let same : (new, rest) ≡ ((old ++ 0 ∷ []) ++ p.0, p.1) = cc in
    record { label = p.0; read = f ∙ ap (λ (x : List ℕ). Some (p.0, x)) (sym (ap (λ (x : List ℕ × List ℕ). x.1) same)); is = ap (λ (x : List ℕ × List ℕ). x.0) same }

pub label_after : (text old new rest : List ℕ) → Some (new, rest) ≡ after_octets (old ++ 0 ∷ []) (read_label text) → IsLabelAfter text old new rest
label_after text old new rest e = label_after_by old new rest text (read_label text) refl e

label_size : (text old new rest : List ℕ) → (h : IsLabelAfter text old new rest) → length new - length old - 1 ≡ length h.label
label_size text old new rest h =
    let l = ap (λ (x : List ℕ). length x) h.is in
    omega (arith, length-append (old ++ 0 ∷ []) h.label, length-append old (0 ∷ []))

long_true : (n : ℕ) (label : List ℕ) → n ≡ length label → 63 < n → true ≡ is_long label
long_true n label e h = grind (arith, nat_tests)

long_false : (n : ℕ) (label : List ℕ) → n ≡ length label → n ≤ 63 → false ≡ is_long label
long_false n label e h = grind (arith, nat_tests)

pub pushed_long : (text old new rest : List ℕ) → IsLabelAfter text old new rest → 63 < length new - length old - 1 → HasPushed text old new rest true
pushed_long text old new rest h long =
    let size = label_size text old new rest h in
    record { label = h.label; read = h.read; some = omega arith; sized = long_true (length new - length old - 1) h.label size long; pushed = λ e. absurd cc }

pub pushed_short : (text old new rest : List ℕ) (n : ℕ) → IsLabelAfter text old new rest → n ≡ length new - length old - 1 → 0 < n → n ≤ 63 → HasPushed text old (slice_set new (length old) n) rest false
pushed_short text old new rest n h e some short =
    let size = label_size text old new rest h in
    let long : n ≡ length h.label = e ∙ size in
    let there : new ≡ old ++ 0 ∷ h.label = h.is ∙ append_assoc old (0 ∷ []) h.label in
    record {
      label = h.label;
      read = h.read;
      some = omega arith;
      sized = long_false n h.label long short;
      pushed = λ _. ap (λ (x : List ℕ). slice_set x (length old) n) there ∙ (set_at old 0 h.label n (length old) refl ∙ ap (λ (x : ℕ). old ++ x ∷ h.label) long);
    }

room_then : (origin : Labels) (n m : ℕ) (p : List ℕ × List ℕ) → ((rest : List ℕ) → length rest < length p.1 → read_labels_within origin n rest ≡ read_labels_within origin m rest) → then_labels origin (read_labels_within origin n) p ≡ then_labels origin (read_labels_within origin m) p
room_then origin n m ([], rest) same = refl
room_then origin n m (c ∷ label, []) same = refl
room_then origin n m (c ∷ label, dot ∷ []) same = refl
room_then origin n m (c ∷ label, dot ∷ d ∷ rest) same = ap (λ (read : Option Labels). read >>= λ labels. Some ((c ∷ label) ∷ labels)) (same (d ∷ rest) (omega arith))

room_bind : (origin : Labels) (n m : ℕ) (read : Option (List ℕ × List ℕ)) → ((p : List ℕ × List ℕ) → read ≡ Some p → then_labels origin (read_labels_within origin n) p ≡ then_labels origin (read_labels_within origin m) p) → (read >>= then_labels origin (read_labels_within origin n)) ≡ (read >>= then_labels origin (read_labels_within origin m))
room_bind origin n m None same = refl
room_bind origin n m (Some p) same = same p refl

room_labels : (origin : Labels) (n m : ℕ) (text : List ℕ) → length text ≤ n → length text ≤ m → read_labels_within origin n text ≡ read_labels_within origin m text
room_labels origin zero zero text a b = refl
room_labels origin zero (suc m) [] a b = refl
room_labels origin zero (suc m) (c ∷ text) a b = absurd (omega arith)
room_labels origin (suc n) zero [] a b = refl
room_labels origin (suc n) zero (c ∷ text) a b = absurd (omega arith)
room_labels origin (suc n) (suc m) text a b =
    room_bind origin n m (read_label text) (λ p e. let s = label_shorter text p e in room_then origin n m p (λ rest l. room_labels origin n m rest (omega arith) (omega arith)))

step_then : (origin : Labels) (n : ℕ) (p : List ℕ × List ℕ) → ((rest : List ℕ) → length rest < length p.1 → read_labels_within origin n rest ≡ read_labels origin rest) → then_labels origin (read_labels_within origin n) p ≡ then_labels origin (read_labels origin) p
step_then origin n ([], rest) same = refl
step_then origin n (c ∷ label, []) same = refl
step_then origin n (c ∷ label, dot ∷ []) same = refl
step_then origin n (c ∷ label, dot ∷ d ∷ rest) same = ap (λ (read : Option Labels). read >>= λ labels. Some ((c ∷ label) ∷ labels)) (same (d ∷ rest) (omega arith))

step_bind : (origin : Labels) (n : ℕ) (read : Option (List ℕ × List ℕ)) → ((p : List ℕ × List ℕ) → read ≡ Some p → then_labels origin (read_labels_within origin n) p ≡ then_labels origin (read_labels origin) p) → (read >>= then_labels origin (read_labels_within origin n)) ≡ (read >>= then_labels origin (read_labels origin))
step_bind origin n None same = refl
step_bind origin n (Some p) same = same p refl

-- a label, and the others
pub labels_step : (origin : Labels) (text : List ℕ) → read_labels origin text ≡ (read_label text >>= then_labels origin (read_labels origin))
labels_step origin [] = refl
labels_step origin (c ∷ text) =
    step_bind origin (length text) (read_label (c ∷ text))
    (λ p e. let s = label_shorter (c ∷ text) p e in step_then origin (length text) p (λ rest l. room_labels origin (length text) (length rest) rest (omega arith) (omega arith)))

-- labels that were read before, and the text after them
pub record HasFront (origin : Labels) (text rest octets : List ℕ) (long : Bool) : Type 0 where
  pub front : Labels
  pub others : after_labels front (read_labels origin rest) ≡ read_labels origin text
  pub sized : long ≡ list_any is_long front
  pub written : long ≡ false → octets ≡ labels_octets front

or_false : (a : Bool) → (a || false) ≡ a
or_false true = refl
or_false false = refl

or_assoc : (a b c : Bool) → (a || (b || c)) ≡ ((a || b) || c)
or_assoc true b c = refl
or_assoc false b c = refl

any_push : (front : Labels) (label : List ℕ) → list_any is_long (front ++ label ∷ []) ≡ (list_any is_long front || is_long label)
any_push [] label = or_false (is_long label)
any_push (x ∷ front) label = ap (λ (b : Bool). is_long x || b) (any_push front label) ∙ or_assoc (is_long x) (list_any is_long front) (is_long label)

octets_push : (front : Labels) (label : List ℕ) → labels_octets (front ++ label ∷ []) ≡ labels_octets front ++ label_octets label
octets_push front label = flat_map-append label_octets front (label ∷ []) ∙ ap (λ (x : List ℕ). labels_octets front ++ x) (append-nil (label_octets label))

push_written : (front : Labels) (label old new : List ℕ) (long is : Bool) → (long ≡ false → old ≡ labels_octets front) → (is ≡ false → new ≡ old ++ label_octets label) → (long || is) ≡ false → new ≡ labels_octets (front ++ label ∷ [])
push_written front label old new true is f g e = absurd cc
push_written front label old new false true f g e = absurd cc
push_written front label old new false false f g e = g refl ∙ (ap (λ (x : List ℕ). x ++ label_octets label) (f refl) ∙ sym (octets_push front label))

pub last_read : (origin : Labels) (label rest : List ℕ) → 0 < length label → length rest ≤ 0 → then_labels origin (read_labels origin) (label, rest) ≡ Some (label ∷ origin)
last_read origin [] rest h g = absurd (omega arith)
last_read origin (c ∷ label) [] h g = refl
last_read origin (c ∷ label) (dot ∷ rest) h g = absurd (omega arith)

pub ended_read : (origin : Labels) (label rest : List ℕ) → 0 < length label → length rest ≡ 1 → then_labels origin (read_labels origin) (label, rest) ≡ Some (label ∷ [])
ended_read origin [] rest h g = absurd (omega arith)
ended_read origin (c ∷ label) [] h g = absurd (omega arith)
ended_read origin (c ∷ label) (dot ∷ []) h g = refl
ended_read origin (c ∷ label) (dot ∷ d ∷ rest) h g = absurd (omega arith)

pub more_read : (origin : Labels) (label : List ℕ) (dot : ℕ) (rest : List ℕ) → 0 < length label → 0 < length rest → then_labels origin (read_labels origin) (label, dot ∷ rest) ≡ (read_labels origin rest >>= λ labels. Some (label ∷ labels))
more_read origin [] dot rest h g = absurd (omega arith)
more_read origin (c ∷ label) dot [] h g = absurd (omega arith)
more_read origin (c ∷ label) dot (d ∷ rest) h g = refl

after_label : (front : Labels) (label : List ℕ) (read : Option Labels) → after_labels (front ++ label ∷ []) read ≡ after_labels front (read >>= λ labels. Some (label ∷ labels))
after_label front label None = refl
after_label front label (Some labels) = ap (λ (x : Labels). Some x) (append_assoc front (label ∷ []) labels)

-- the last label was read, and a `.` after it
pub read_ended : (origin : Labels) (text rest old new after : List ℕ) (long is : Bool) → HasFront origin text rest old long → HasPushed rest old new after is → length after ≡ 1 → HasRead origin text new (long || is)
read_ended origin text rest old new after long is f p short =
    record {
      labels = f.front ++ p.label ∷ [];
      read = sym f.others ∙ ap (after_labels f.front) (labels_step origin rest ∙ (ap (λ (x : Option (List ℕ × List ℕ)). x >>= then_labels origin (read_labels origin)) p.read ∙ ended_read origin p.label after p.some short));
      sized = sym (any_push f.front p.label ∙ rw (← f.sized, ← p.sized) refl);
      written = push_written f.front p.label old new long is f.written p.pushed;
    }

any_origin : (front origin : Labels) → list_any is_long origin ≡ false → list_any is_long (front ++ origin) ≡ list_any is_long front
any_origin [] origin h = h
any_origin (x ∷ front) origin h = ap (λ (b : Bool). is_long x || b) (any_origin front origin h)

-- the last label was read, and no `.` after it
pub read_last : (origin : Labels) (text rest old new after all : List ℕ) (long is : Bool) → HasFront origin text rest old long → HasPushed rest old new after is → length after ≤ 0 → list_any is_long origin ≡ false → all ≡ new ++ labels_octets origin → HasRead origin text all (long || is)
read_last origin text rest old new after all long is f p short fits e =
    let front = f.front ++ p.label ∷ [] in
    record {
      labels = front ++ origin;
      read = sym f.others ∙ (ap (after_labels f.front) (labels_step origin rest ∙ (ap (λ (x : Option (List ℕ × List ℕ)). x >>= then_labels origin (read_labels origin)) p.read ∙ last_read origin p.label after p.some short))
          ∙ ap (λ (x : Labels). Some x) (sym (append_assoc f.front (p.label ∷ []) origin)));
      sized = sym (any_origin front origin fits ∙ (any_push f.front p.label ∙ rw (← f.sized, ← p.sized) refl));
      written = λ h. e ∙ (ap (λ (x : List ℕ). x ++ labels_octets origin) (push_written f.front p.label old new long is f.written p.pushed h) ∙ sym (flat_map-append label_octets front origin));
    }

-- a label before others was read
pub front_step : (origin : Labels) (text rest old new after others : List ℕ) (dot : ℕ) (long is : Bool) → HasFront origin text rest old long → HasPushed rest old new after is → after ≡ dot ∷ others → 0 < length others → HasFront origin text others new (long || is)
front_step origin text rest old new after others dot long is f p e some =
    let read : read_labels origin rest ≡ (read_labels origin others >>= λ labels. Some (p.label ∷ labels)) =
    labels_step origin rest ∙ (ap (λ (x : Option (List ℕ × List ℕ)). x >>= then_labels origin (read_labels origin)) (p.read ∙ ap (λ (x : List ℕ). Some (p.label, x)) e) ∙ more_read origin p.label dot others p.some some) in
    record {
      front = f.front ++ p.label ∷ [];
      others = after_label f.front p.label (read_labels origin others) ∙ (ap (after_labels f.front) (sym read) ∙ f.others);
      sized = sym (any_push f.front p.label ∙ rw (← f.sized, ← p.sized) refl);
      written = push_written f.front p.label old new long is f.written p.pushed;
    }
