-- What is written for a link: a line.
use Rattle.std.specs.Prelude.{ℕ, List, [], ◌∷◌, ◌++◌, codes, decimal, Option, Some, None}
use Rattle.std.specs.List.{flat_map}
use Rattle.hex.specs.Hex.{encode_lower}
use Rattle.dsec_spec.specs.Chain.{Link, LinkKind, anchor_key, anchor_ds, ds, key, set}
use Rattle.dsec_name.specs.NameDisplay.{name_text}

-- the words of the kinds of links
abbrev pub kind_text : LinkKind → List ℕ
kind_text anchor_key = codes "anchor-key"
kind_text anchor_ds = codes "anchor-ds"
kind_text ds = codes "ds"
kind_text key = codes "key"
kind_text set = codes "set"

-- the data of an anchor or a DS record in hex, or `-`
abbrev pub via_text : Option (List ℕ) → List ℕ
via_text None = codes "-"
via_text (Some octets) = encode_lower octets

-- data in hex, with commas between
abbrev pub datas_text : List (List ℕ) → List ℕ
datas_text [] = []
datas_text (first ∷ others) = encode_lower first ++ flat_map (λ other. 44 ∷ encode_lower other) others

-- what a link is, and its set's owner, class and type
unfoldable pub link_head : ℕ → Link → List ℕ
link_head index link =
    codes "link " ++ decimal index ++ codes " " ++ kind_text link.kind ++ codes " " ++ name_text link.records.owner
    ++ codes " " ++ decimal link.records.class ++ codes " " ++ decimal link.records.rtype

-- what speaks of its key, the key, the signature, and the set's data
unfoldable pub link_data : Link → List ℕ
link_data link =
    codes " " ++ via_text link.via ++ codes " " ++ encode_lower link.signing_key ++ codes " " ++ encode_lower link.rrsig
    ++ codes " " ++ datas_text link.records.datas

-- the line of a link
abbrev pub link_line : ℕ → Link → List ℕ
link_line index link = link_head index link ++ link_data link ++ 10 ∷ []
