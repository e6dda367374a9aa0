-- The first data that say a key, by data with their type.
use Rattle.std.proofs.Common.{◌≡◌, ℕ, ◌==◌, Bool, true, false, cond, List, [], ◌∷◌, Option, Some, None, refl, ap, ◌∙◌}
use Rattle.std.specs.Prelude.{find, unwrap_or, Result, Ok, Err, IfOk}
use Rattle.std.specs.List.{AllByRecursion}
use Rattle.std.specs.Option.{option_map}
use Rattle.std.proofs.lemmas.Bool.{cond-true, eq-eqb}
use Rattle.std.proofs.lemmas.List.Elements.{recursion_from_All}
use Rattle.dsec_spec.specs.Numbers.{DNSKEY}
use Rattle.dsec_spec.specs.Records.{Key, key_of}
use Rattle.dsec_wire.specs.TypedData.{TypedData}
use Rattle.dsec_wire.specs.Views.{dnskey_in}
use Rattle.dsec_link.specs.Sets.{AreOf, octets_of}
use Rattle.dsec_nodes.specs.Signing.{data_of, says_key}

found_data : (key : Key) (datas : List TypedData) → AllByRecursion (λ (d : TypedData). d.rtype ≡ DNSKEY) datas
    → option_map (λ (d : TypedData). d.octets) (find (λ d. says_key key (dnskey_in d)) datas) ≡ find (λ rdata. says_key key (key_of rdata)) (octets_of datas)
found_data key [] typed = refl
found_data key (d ∷ datas) typed =
    let same : says_key key (dnskey_in d) ≡ says_key key (key_of d.octets) = ap (says_key key) (cond-true (d.rtype == DNSKEY) (key_of d.octets) None (eq-eqb d.rtype DNSKEY typed.0)) in
    ap (λ (b : Bool). option_map (λ (x : TypedData). x.octets) (cond b (Some d) (find (λ x. says_key key (dnskey_in x)) datas))) same
    ∙ by (says_key key (key_of d.octets)) (found_data key datas typed.1)
  where
    by : (b : Bool) → option_map (λ (x : TypedData). x.octets) (find (λ x. says_key key (dnskey_in x)) datas) ≡ find (λ rdata. says_key key (key_of rdata)) (octets_of datas)
        → option_map (λ (x : TypedData). x.octets) (cond b (Some d) (find (λ x. says_key key (dnskey_in x)) datas)) ≡ cond b (Some d.octets) (find (λ rdata. says_key key (key_of rdata)) (octets_of datas))
    by true e = refl
    by false e = e

pub data_found : (key : Key) (datas : List TypedData) (o : Option TypedData) → AreOf DNSKEY datas → o ≡ find (λ d. says_key key (dnskey_in d)) datas
    → unwrap_or (option_map (λ (d : TypedData). d.octets) o) [] ≡ data_of (octets_of datas) key
data_found key datas o typed e =
    ap (λ (x : Option TypedData). unwrap_or (option_map (λ (d : TypedData). d.octets) x) []) e
    ∙ ap (λ (x : Option (List ℕ)). unwrap_or x []) (found_data key datas (recursion_from_All (λ (d : TypedData). d.rtype ≡ DNSKEY) datas typed))

-- what follows from an answer follows from what it is told of
pub if_ok : {A E : Type 0} {P Q : A → Type 0} (r : Result A E) → ((a : A) → P a → Q a) → IfOk r P → IfOk r Q
if_ok (Ok a) f h = f a h
if_ok (Err e) f h = h
