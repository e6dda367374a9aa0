-- Keys that words write.
use Rattle.std.proofs.Common.{◌≡◌, ℕ, List, [], ◌∷◌, ◌++◌, ◌≤◌, length, refl, sym, ap, ◌∙◌, append_assoc, append-nil, subst}
use Rattle.std.specs.List.{concat}
use Rattle.dsec_spec.specs.Numbers.{DNSKEY}
use Rattle.dsec_spec.specs.Records.{Key, key_octets}
use Rattle.dsec_spec.specs.RecordData.{IsReadable}
use Rattle.dsec_spec.proofs.RecordLemmas.{readable_from_key}

-- a key's data are readable, if they are no longer than data may be
pub readable_key : (key : Key) (rdata : List ℕ) → rdata ≡ key_octets key → length rdata ≤ 65535 → IsReadable DNSKEY rdata
readable_key key rdata e l = subst (IsReadable DNSKEY) (sym e) (readable_from_key (key_octets key) _ refl (subst (λ (x : List ℕ). length x ≤ 65535) e l))

-- one word more is joined
pub joined_more : (front word all : List ℕ) (words more : List (List ℕ)) → words ≡ word ∷ more → front ++ concat words ≡ all → (front ++ word) ++ concat more ≡ all
joined_more front word all words more e inv = append_assoc front word (concat more) ∙ ap (λ (ws : List (List ℕ)). front ++ concat ws) (sym e) ∙ inv

-- all are joined
pub joined_all : (front all : List ℕ) (words : List (List ℕ)) → words ≡ [] → front ++ concat words ≡ all → front ≡ all
joined_all front all words e inv = sym (append-nil front) ∙ ap (λ (ws : List (List ℕ)). front ++ concat ws) (sym e) ∙ inv
