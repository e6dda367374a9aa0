-- What the code has read of a text.
use Rattle.std.specs.Prelude.{◌≡◌, ◌<◌, ℕ, List, ◌++◌, length, Bool, false, Option, Some, None}
use Rattle.std.specs.List.{list_any}
use Rattle.dsec_spec.specs.Names.{Labels, label_octets}
use Rattle.dsec_name.specs.Errors.{is_long}
use Rattle.dsec_name.specs.Keys.{labels_octets}
use Rattle.dsec_name.specs.TextReading.{read_label, then_labels, read_labels}
use Rattle.dsec_spec.specs.Reading.{◌>>=◌}

-- a label was read, and its length and octets were added, unless it is too long
pub record HasPushed (text old new rest : List ℕ) (long : Bool) : Type 0 where
  pub label : List ℕ
  pub read : read_label text ≡ Some (label, rest)
  pub some : 0 < length label
  pub sized : long ≡ is_long label
  pub pushed : long ≡ false → new ≡ old ++ label_octets label

-- there is no label, or an empty one
abbrev pub HasNoLabel : List ℕ → Type 0
HasNoLabel text = (origin : Labels) (others : List ℕ → Option Labels) → (read_label text >>= then_labels origin others) ≡ None

-- labels were read, and their lengths and octets written, unless one is too long
pub record HasRead (origin : Labels) (text octets : List ℕ) (long : Bool) : Type 0 where
  pub labels : Labels
  pub read : read_labels origin text ≡ Some labels
  pub sized : long ≡ list_any is_long labels
  pub written : long ≡ false → octets ≡ labels_octets labels
