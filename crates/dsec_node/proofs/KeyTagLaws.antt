-- Tags of keys, by index.
use Rattle.std.proofs.Common.{◌≡◌, ℕ, ◌<◌, ◌==◌, Bool, true, false, cond, List, length, Option, Some, None, refl, sym, ap, ◌∙◌}
use Rattle.std.specs.Prelude.{get_or, slice_get}
use Rattle.std.specs.Option.{option_map}
use Rattle.std.proofs.lemmas.Option.{same_Some, slice_get-map, slice_get_read}
use Rattle.dsec_spec.specs.KeyTag.{key_tag}
use Rattle.dsec_spec.specs.Numbers.{DNSKEY}
use Rattle.dsec_spec.specs.Records.{Key, key_of}
use Rattle.dsec_wire.specs.TypedData.{TypedData}
use Rattle.dsec_wire.specs.Views.{dnskey_in}
use Rattle.dsec_link.specs.Sets.{octets_of}
use Rattle.dsec_node.specs.KeyTags.{AreTags, tag_in}

-- the tag of a key stands where its data do
pub tag_there : (tags : List ℕ) (datas : List (List ℕ)) (i : ℕ) (rdata : List ℕ) (key : Key) → AreTags tags datas → slice_get datas i ≡ Some rdata → Some key ≡ key_of rdata
    → slice_get tags i ≡ Some (key_tag key)
tag_there tags datas i rdata key are there says =
    by (slice_get tags i)
    (sym (slice_get-map Some tags i)
    ∙ (ap (λ (os : List (Option ℕ)). slice_get os i) are ∙ (slice_get-map tag_in datas i ∙ (ap (option_map tag_in) there ∙ ap (λ (o : Option Key). Some (option_map key_tag o)) (sym says)))))
  where
    by : (o : Option ℕ) → option_map Some o ≡ Some (Some (key_tag key)) → o ≡ Some (key_tag key)
    by None e = absurd cc
    by (Some n) e = same_Some (Some n) (Some (key_tag key)) e

-- data that say a key are a DNSKEY record's
pub said_key : (one : TypedData) (key : Key) → Some key ≡ dnskey_in one → Some key ≡ key_of one.octets
said_key one key e = by (one.rtype == DNSKEY) e
  where
    by : (b : Bool) → Some key ≡ cond b (key_of one.octets) None → Some key ≡ key_of one.octets
    by true f = f
    by false f = absurd cc

-- the tag of the key that the data at an index say
pub tag_of_data : (tags : List ℕ) (datas : List TypedData) (i : ℕ) (one : TypedData) (key : Key) → AreTags tags (octets_of datas) → i < length datas → one ≡ get_or datas i one → Some key ≡ dnskey_in one
    → slice_get tags i ≡ Some (key_tag key)
tag_of_data tags datas i one key are below is says =
    tag_there tags (octets_of datas) i one.octets key are
    (slice_get-map (λ (d : TypedData). d.octets) datas i ∙ ap (option_map (λ (d : TypedData). d.octets)) (slice_get_read datas (length datas) i one refl below is)) (said_key one key says)
