-- Names read label by label, bitmaps block by block, and data field by field.
use Rattle.std.proofs.Common.{◌≡◌, ℕ, ◌+◌, ◌<◌, ◌≤◌, List, [], ◌∷◌, ◌++◌, length, take, drop, Some, None, refl, sym, ap, ◌∙◌, subst, arith, append_assoc, length-append}
use Rattle.std.specs.Prelude.{All}
use Rattle.std.specs.List.{flat_map}
use Rattle.std.proofs.lemmas.List.{append-nil, length-take-le, take-append-drop}
use Rattle.std.proofs.lemmas.List.Concat.{flat_map-append}
use Rattle.std.proofs.lemmas.List.Elements.{All-nil, All-head, All-tail, All-push}
use Rattle.std.proofs.lemmas.List.Sums.{sum_by-append}
use Rattle.std.proofs.lemmas.Option.{some_pair_parts}
use Rattle.dsec_spec.specs.Names.{Labels, IsLabel, IsName, wire_length, label_octets, wire_octets}
use Rattle.dsec_spec.specs.Layouts.{Field}
use Rattle.dsec_spec.specs.RecordData.{Part, Block, IsBlock, block_octets, IsBitmap, octets_in, name_in, blocks_in, part_in, parts_in}
use Rattle.dsec_spec.proofs.WireNameLemmas.{octets_in-append, name_in-wire_octets, from_name_in, wire_octets-cons}
use Rattle.dsec_spec.proofs.RecordDataLemmas.{from_blocks_in}

-- octets that begin with as many octets begin with the same
same_front : (a b x y : List ℕ) → length a ≡ length b → a ++ x ≡ b ++ y → (a ≡ b) × (x ≡ y)
same_front a b x y n e =
    some_pair_parts a b x y (sym (octets_in-append (length b) a x n) ∙ ap (octets_in (length b)) e ∙ octets_in-append (length b) b y refl)

-- the octets begin with labels, and these are left
pub record HasLabels (y : List ℕ) (done : Labels) (left : List ℕ) : Type 0 where
  pub labels : All IsLabel done
  pub is : y ≡ flat_map label_octets done ++ left

-- no label is read at first
pub HasLabels-nil : (y : List ℕ) → HasLabels y [] y
HasLabels-nil y = record { labels = All-nil IsLabel; is = refl }

-- one label more is read
pub HasLabels-push : (y : List ℕ) (done : Labels) (size : ℕ) (left : List ℕ) → HasLabels y done (size ∷ left) → 0 < size → size ≤ 63 → size ≤ length left → HasLabels y (done ++ take size left ∷ []) (drop size left)
HasLabels-push y done size left has low high fits =
    let n = length-take-le size left fits in
    record {
      labels = All-push IsLabel done (take size left) has.labels (record { not_empty = omega arith; at_most = omega arith });
      is =
          has.is
          ∙ ap (λ (z : List ℕ). flat_map label_octets done ++ z) (pushed size left n)
          ∙ sym (append_assoc (flat_map label_octets done) (label_octets (take size left) ++ []) (drop size left))
          ∙ ap (λ (z : List ℕ). z ++ drop size left) (sym (flat_map-append label_octets done (take size left ∷ [])));
    }
  where
    pushed : (size : ℕ) (left : List ℕ) → length (take size left) ≡ size → size ∷ left ≡ (label_octets (take size left) ++ []) ++ drop size left
    pushed size left n = rw (append-nil (take size left), n, take-append-drop size left) refl

-- a name that octets with these labels begin with has them, and goes on with what is left
pub after_labels : (done : Labels) (left : List ℕ) (name : Labels) (x : List ℕ) → All IsLabel done → flat_map label_octets done ++ left ≡ wire_octets name ++ x → (others : Labels) × (name ≡ done ++ others) × (left ≡ wire_octets others ++ x)
after_labels [] left name x all e = (name, refl, e)
after_labels (label ∷ done) left [] x all e =
    let n : length label ≡ 0 = cc in
    absurd (omega (arith, (All-head IsLabel label done all).not_empty))
after_labels (label ∷ done) left (first ∷ name) x all e =
    let f : length label ∷ (label ++ (flat_map label_octets done ++ left)) ≡ length first ∷ (first ++ (wire_octets name ++ x)) =
    ap (λ (z : List ℕ). length label ∷ z) (sym (append_assoc label (flat_map label_octets done) left)) ∙ e ∙ wire_octets-cons first name x in
    let n : length label ≡ length first = cc in
    let same = same_front label first _ _ n (ap (drop 1) f) in
    let after = after_labels done left name x (All-tail IsLabel label done all) same.1 in
    (after.0, ap (λ (l : List ℕ). l ∷ name) (sym same.0) ∙ ap (λ (ls : Labels). label ∷ ls) after.1, after.2)

-- nothing is read where there is no name
pub name_in-none : (y : List ℕ) → ((name : Labels) (x : List ℕ) → IsName name → y ≡ wire_octets name ++ x → ⊥) → name_in y ≡ None
name_in-none y no_name =
    elim (name_in y) as (λ o. name_in y ≡ o → name_in y ≡ None) [
      | Some name ↦ λ e. let read = from_name_in y name.0 name.1 e in absurd (no_name name.0 name.1 read.0 read.1)
      | None ↦ λ e. e
    ] refl

-- nothing is read of labels where no name goes on with what is left
name_in-stuck : (y : List ℕ) (done : Labels) (left : List ℕ) → HasLabels y done left → ((others : Labels) (x : List ℕ) → IsName (done ++ others) → left ≡ wire_octets others ++ x → ⊥) → name_in y ≡ None
name_in-stuck y done left has stuck =
    name_in-none y (λ name x is e. let after = after_labels done left name x has.labels (sym has.is ∙ e) in stuck after.0 x (subst IsName after.1 is) after.2)

-- labels and a 0 are a name
pub name_in-labels : (y : List ℕ) (done : Labels) (x : List ℕ) → HasLabels y done (0 ∷ x) → wire_length done ≤ 255 → name_in y ≡ Some (done, x)
name_in-labels y done x has most =
    ap name_in (has.is ∙ sym (append_assoc (flat_map label_octets done) (0 ∷ []) x)) ∙ name_in-wire_octets done x (record { labels = has.labels; at_most = most })

-- labels alone are no name
pub name_in-no_end : (y : List ℕ) (done : Labels) → HasLabels y done [] → name_in y ≡ None
name_in-no_end y done has =
    name_in-stuck y done [] has (λ others x is e. absurd (let n = ap length e in omega (arith, length-append (wire_octets others) x, length-append (flat_map label_octets others) (0 ∷ []))))

-- the labels that go on begin with the label that is left, or the name ends
next_label : (size : ℕ) (left : List ℕ) (done others : Labels) (x : List ℕ) → IsName (done ++ others) → size ∷ left ≡ wire_octets others ++ x → size ≤ 63 × (size ≤ length left)
next_label size left done [] x is e =
    let n : size ≡ 0 = cc in (omega arith, omega arith)
next_label size left done (label ∷ others) x is e =
    let f : size ∷ left ≡ length label ∷ (label ++ (wire_octets others ++ x)) = e ∙ wire_octets-cons label others x in
    let n : size ≡ length label = cc in
    let m : length left ≡ length label + length (wire_octets others ++ x) = ap length (ap (drop 1) f) ∙ length-append label (wire_octets others ++ x) in
    let good = All-head IsLabel label others (All-end done (label ∷ others) is.labels) in
    (omega (arith, good.at_most), omega arith)
  where
    All-end : (a b : Labels) → All IsLabel (a ++ b) → All IsLabel b
    All-end [] b all = all
    All-end (l ∷ a) b all = All-end a b (All-tail IsLabel l (a ++ b) all)

-- a label of more than 63 octets is in no name
pub name_in-long_label : (y : List ℕ) (done : Labels) (size : ℕ) (left : List ℕ) → HasLabels y done (size ∷ left) → 63 < size → name_in y ≡ None
name_in-long_label y done size left has long =
    name_in-stuck y done (size ∷ left) has (λ others x is e. absurd (omega (arith, (next_label size left done others x is e).0)))

-- a label that is cut short is in no name
pub name_in-short_label : (y : List ℕ) (done : Labels) (size : ℕ) (left : List ℕ) → HasLabels y done (size ∷ left) → length left < size → name_in y ≡ None
name_in-short_label y done size left has short =
    name_in-stuck y done (size ∷ left) has (λ others x is e. absurd (omega (arith, (next_label size left done others x is e).1)))

-- labels that are too long for a name begin none
pub name_in-too_long : (y : List ℕ) (done : Labels) (left : List ℕ) → HasLabels y done left → 255 < wire_length done → name_in y ≡ None
name_in-too_long y done left has long =
    name_in-stuck y done left has (λ others x is e. absurd (let n = is.at_most in let m = sum_by-append (λ (l : List ℕ). length l + 1) done others in omega arith))

-- the octets begin with blocks, and these are left
pub record HasBlocks (x : List ℕ) (done : List Block) (left : List ℕ) : Type 0 where
  pub blocks : All IsBlock done
  pub is : x ≡ flat_map block_octets done ++ left

-- no block is read at first
pub HasBlocks-nil : (x : List ℕ) → HasBlocks x [] x
HasBlocks-nil x = record { blocks = All-nil IsBlock; is = refl }

-- one block more is read
pub HasBlocks-push : (x : List ℕ) (done : List Block) (window size : ℕ) (left : List ℕ) → HasBlocks x done (window ∷ size ∷ left) → 0 < size → size ≤ 32 → size ≤ length left → HasBlocks x (done ++ record { window = window; bits = take size left } ∷ []) (drop size left)
HasBlocks-push x done window size left has low high fits =
    let n = length-take-le size left fits in
    let block : Block = record { window = window; bits = take size left } in
    record {
      blocks = All-push IsBlock done block has.blocks (record { not_empty = omega arith; at_most = omega arith });
      is =
          has.is
          ∙ ap (λ (z : List ℕ). flat_map block_octets done ++ z) (pushed n)
          ∙ sym (append_assoc (flat_map block_octets done) (block_octets block ++ []) (drop size left))
          ∙ ap (λ (z : List ℕ). z ++ drop size left) (sym (flat_map-append block_octets done (block ∷ [])));
    }
  where
    pushed : length (take size left) ≡ size → window ∷ size ∷ left ≡ (block_octets (record { window = window; bits = take size left }) ++ []) ++ drop size left
    pushed n = rw (append-nil (take size left), n, take-append-drop size left) refl

-- blocks and nothing after them are a bitmap
pub IsBitmap-blocks : (x : List ℕ) (done : List Block) → HasBlocks x done [] → IsBitmap done x
IsBitmap-blocks x done has = record { good = has.blocks; is = has.is ∙ append-nil (flat_map block_octets done) }

-- a bitmap that begins with these blocks goes on with what is left
pub after_blocks : (done : List Block) (left : List ℕ) (blocks : List Block) → All IsBlock blocks → flat_map block_octets done ++ left ≡ flat_map block_octets blocks → (others : List Block) × All IsBlock others × (left ≡ flat_map block_octets others)
after_blocks [] left blocks all e = (blocks, all, e)
after_blocks (block ∷ done) left [] all e = absurd cc
after_blocks (block ∷ done) left (first ∷ blocks) all e =
    let n : length block.bits ≡ length first.bits = cc in
    let f : block.bits ++ (flat_map block_octets done ++ left) ≡ first.bits ++ flat_map block_octets blocks =
    sym (append_assoc block.bits (flat_map block_octets done) left) ∙ ap (drop 2) e in
    let same = same_front block.bits first.bits _ _ n f in
    after_blocks done left blocks (All-tail IsBlock first blocks all) same.1

-- nothing is read where there is no bitmap
pub blocks_in-none : (n : ℕ) (x : List ℕ) → ((blocks : List Block) → IsBitmap blocks x → ⊥) → blocks_in n x ≡ None
blocks_in-none n x no_bitmap =
    elim (blocks_in n x) as (λ o. blocks_in n x ≡ o → blocks_in n x ≡ None) [
      | Some blocks ↦ λ e. absurd (no_bitmap blocks (from_blocks_in n x blocks e))
      | None ↦ λ e. e
    ] refl

-- nothing is read of blocks where none goes on with what is left
blocks_in-stuck : (n : ℕ) (x : List ℕ) (done : List Block) (left : List ℕ) → HasBlocks x done left → ((others : List Block) → All IsBlock others → left ≡ flat_map block_octets others → ⊥) → blocks_in n x ≡ None
blocks_in-stuck n x done left has stuck =
    blocks_in-none n x (λ blocks is. let after = after_blocks done left blocks is.good (sym has.is ∙ is.is) in stuck after.0 after.1 after.2)

-- a window alone is no block
pub blocks_in-window_alone : (n : ℕ) (x : List ℕ) (done : List Block) (window : ℕ) → HasBlocks x done (window ∷ []) → blocks_in n x ≡ None
blocks_in-window_alone n x done window has = blocks_in-stuck n x done (window ∷ []) has alone
  where
    alone : (others : List Block) → All IsBlock others → window ∷ [] ≡ flat_map block_octets others → ⊥
    alone [] all e = absurd cc
    alone (block ∷ others) all e = absurd cc

-- a block that is left has 1 to 32 octets, which are there
next_block : (window size : ℕ) (left : List ℕ) (others : List Block) → All IsBlock others → window ∷ size ∷ left ≡ flat_map block_octets others → 0 < size × (size ≤ 32) × (size ≤ length left)
next_block window size left [] all e = absurd cc
next_block window size left (block ∷ others) all e =
    let n : size ≡ length block.bits = cc in
    let m : length left ≡ length block.bits + length (flat_map block_octets others) = ap length (ap (drop 2) e) ∙ length-append block.bits (flat_map block_octets others) in
    let good = All-head IsBlock block others all in
    (omega (arith, good.not_empty), omega (arith, good.at_most), omega arith)

-- a block of no octets is in no bitmap
pub blocks_in-empty_block : (n : ℕ) (x : List ℕ) (done : List Block) (window : ℕ) (left : List ℕ) → HasBlocks x done (window ∷ 0 ∷ left) → blocks_in n x ≡ None
blocks_in-empty_block n x done window left has =
    blocks_in-stuck n x done (window ∷ 0 ∷ left) has (λ others all e. absurd (omega (arith, (next_block window 0 left others all e).0)))

-- a block of more than 32 octets is in no bitmap
pub blocks_in-long_block : (n : ℕ) (x : List ℕ) (done : List Block) (window size : ℕ) (left : List ℕ) → HasBlocks x done (window ∷ size ∷ left) → 32 < size → blocks_in n x ≡ None
blocks_in-long_block n x done window size left has long =
    blocks_in-stuck n x done (window ∷ size ∷ left) has (λ others all e. absurd (omega (arith, (next_block window size left others all e).1)))

-- a block that is cut short is in no bitmap
pub blocks_in-short_block : (n : ℕ) (x : List ℕ) (done : List Block) (window size : ℕ) (left : List ℕ) → HasBlocks x done (window ∷ size ∷ left) → length left < size → blocks_in n x ≡ None
blocks_in-short_block n x done window size left has short =
    blocks_in-stuck n x done (window ∷ size ∷ left) has (λ others all e. absurd (omega (arith, (next_block window size left others all e).2)))

-- a field's part and the parts of the fields after it
pub parts_in-cons : (field : Field) (fields : List Field) (x y : List ℕ) (part : Part) (parts : List Part) → part_in field x ≡ Some (part, y) → parts_in fields y ≡ Some parts → parts_in (field ∷ fields) x ≡ Some (part ∷ parts)
unfolding parts_in
parts_in-cons field fields x y part parts e f = rw (e, f) refl

-- where the first field takes nothing, nothing is read
pub parts_in-none : (field : Field) (fields : List Field) (x : List ℕ) → part_in field x ≡ None → parts_in (field ∷ fields) x ≡ None
unfolding parts_in
parts_in-none field fields x e = rw e refl

-- where the fields after the first take nothing, nothing is read
pub parts_in-none_after : (field : Field) (fields : List Field) (x y : List ℕ) (part : Part) → part_in field x ≡ Some (part, y) → parts_in fields y ≡ None → parts_in (field ∷ fields) x ≡ None
unfolding parts_in
parts_in-none_after field fields x y part e f = rw (e, f) refl
