-- The octets that words write as an item, as a tail, in a form (RFC 1035 3.3 and 5.1, RFC 3596 2.4, RFC 4034 2.2 and 5.3).
use Rattle.std.specs.Prelude.{ℕ, List, [], ◌∷◌, ◌++◌, Option, Some, None}
use Rattle.std.specs.Int.{to_be_bytes, w16, w32}
use Rattle.dsec_spec.specs.Layouts.{Form, Item, Tail, name, octet, short, long, ipv4, ipv6, nothing, strings, hex, base64}
use Rattle.dsec_spec.specs.Reading.{◌>>=◌}
use Rattle.dsec_spec.specs.Names.{Labels, wire_octets}
use Rattle.dsec_text.specs.Words.{Word, plain_of}
use Rattle.dsec_zonefile.specs.Addresses.{ipv4_in, ipv6_in}
use Rattle.dsec_zonefile.specs.Words.{base64_of, hex_of, joined, name_in, number_in, string_in}

-- the octets that a word writes as an item
abbrev pub item_in : Labels → Item → Word → Option (List ℕ)
item_in origin name word = do
  labels ← name_in origin word
  Some (wire_octets labels)
item_in origin octet word = do
  number ← number_in 255 word
  Some (number ∷ [])
item_in origin short word = do
  number ← number_in 65535 word
  Some (to_be_bytes w16 number)
item_in origin long word = do
  number ← number_in 4294967295 word
  Some (to_be_bytes w32 number)
item_in origin ipv4 word = plain_of word >>= ipv4_in
item_in origin ipv6 word = plain_of word >>= ipv6_in

-- the octets that words write as items, one after the other, and the words after them
abbrev pub items_in : Labels → List Item → List Word → Option (List ℕ × List Word)
items_in origin [] words = Some ([], words)
items_in origin (item ∷ items) [] = None
items_in origin (item ∷ items) (word ∷ words) = do
  first ← item_in origin item word
  others ← items_in origin items words
  Some (first ++ others.0, others.1)

-- the same, behind octets that were read before
abbrev pub added_items : List ℕ → Option (List ℕ × List Word) → Option (List ℕ × List Word)
added_items front read = read >>= λ more. Some (front ++ more.0, more.1)

-- the octets that the words to the end of the line write: none; or one word or more, strings, or hex or base64 that may be split
abbrev pub tail_in : Tail → List Word → Option (List ℕ)
tail_in nothing [] = Some []
tail_in nothing (word ∷ words) = None
tail_in tail [] = None
tail_in strings words = joined string_in words
tail_in hex words = hex_of words
tail_in base64 words = base64_of words

-- the octets that words write in a form
abbrev pub formed_in : Labels → Form → List Word → Option (List ℕ)
formed_in origin form words = do
  first ← items_in origin form.items words
  rest ← tail_in form.tail first.1
  Some (first.0 ++ rest)
