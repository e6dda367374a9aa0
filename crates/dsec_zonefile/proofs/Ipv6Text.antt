-- IPv6 addresses that texts write.
use Rattle.std.proofs.Common.{◌≡◌, ℕ, List, [], ◌∷◌, ◌++◌, length, Some, None, refl, sym, ap, ◌∙◌, subst, append-nil, ne_eqb, arith}
use Rattle.std.specs.Option.{option_map}
use Rattle.std.specs.Net.Addr.{octets_of}
use Rattle.std.specs.Net.Grammar.{IsColonHex}
use Rattle.std.specs.Net.Reader.{Read, read_ipv6, whole_value}
use Rattle.std.proofs.NetLemmas.Ipv6.{EndsGroups-nil, read_ipv6_complete, read_ipv6_sound}
use Rattle.dsec_zonefile.specs.Addresses.{ipv6_in}

-- what is written is read
pub ipv6_read : (text segments : List ℕ) → IsColonHex text segments → Some (octets_of segments) ≡ ipv6_in text
ipv6_read text segments h =
    let whole : read_ipv6 (text ++ []) ≡ Some (segments, []) = read_ipv6_complete text segments [] h EndsGroups-nil in
    let read : read_ipv6 text ≡ Some (segments, []) = ap read_ipv6 (sym (append-nil text)) ∙ whole in
    ap (λ (r : Read (List ℕ)). option_map octets_of (whole_value r)) (sym read)

none_by : (text : List ℕ) (read : Read (List ℕ)) → read_ipv6 text ≡ read → ((segments : List ℕ) → IsColonHex text segments → ⊥) → None ≡ option_map octets_of (whole_value read)
none_by text None e no_text = refl
none_by text (Some (segments, [])) e no_text =
    let found = read_ipv6_sound text segments [] e in
    let is : found.0 ≡ text = sym (found.1 ∙ append-nil found.0) in
    absurd (no_text segments (subst (λ (t : List ℕ). IsColonHex t segments) is found.2))
none_by text (Some (segments, octet ∷ rest)) e no_text = rw (ne_eqb (length (octet ∷ rest)) 0 (omega arith)) refl

-- where nothing is written, nothing is read
pub no_ipv6 : (text : List ℕ) → ((segments : List ℕ) → IsColonHex text segments → ⊥) → None ≡ ipv6_in text
no_ipv6 text no_text = none_by text (read_ipv6 text) refl no_text
