-- Keys that data say, by index.
use Rattle.std.proofs.Common.{◌≡◌, ℕ, zero, suc, List, [], ◌∷◌, map, length, Option, Some, None, refl, ap, ◌∙◌}
use Rattle.std.specs.Prelude.{slice_get}
use Rattle.std.specs.List.{cons_option}
use Rattle.std.specs.Option.{option_map}
use Rattle.std.proofs.lemmas.Option.{same_Some}
use Rattle.dsec_spec.specs.KeyTag.{key_tag}
use Rattle.dsec_spec.specs.Records.{Key, key_of}
use Rattle.dsec_nodes.specs.Signing.{keys_of}
use Rattle.dsec_node.specs.KeyTags.{AreTags, tag_in}

-- the first of lists that are one, and the others
first_is : {A : Type 0} (x y : A) (xs ys : List A) → x ∷ xs ≡ y ∷ ys → Some x ≡ Some y
first_is x y xs ys e = ap (λ l. slice_get l 0) e

others_are : {A : Type 0} (x y : A) (xs ys : List A) → x ∷ xs ≡ y ∷ ys → xs ≡ ys
others_are {A} x y xs ys e = ap tail e where
  tail : List A → List A
  tail [] = []
  tail (z ∷ zs) = zs

-- data that have a tag say a key
module _ (tag : ℕ) (rdata : List ℕ) (rest : List Key) (has : Some tag ≡ tag_in rdata) where
  says : (key : Key) × (key_of rdata ≡ Some key)
  says = by (key_of rdata) refl has where
    by : (o : Option Key) → key_of rdata ≡ o → Some tag ≡ option_map key_tag o → (key : Key) × (key_of rdata ≡ Some key)
    by None e h = absurd cc
    by (Some key) e h = (key, e)

  counted : length (cons_option (key_of rdata) rest) ≡ suc (length rest)
  counted = ap (λ o. length (cons_option o rest)) says.1

pub keys_length : (tags : List ℕ) (datas : List (List ℕ)) → AreTags tags datas → length (keys_of datas) ≡ length datas
keys_length tags [] are = refl
keys_length [] (d ∷ ds) are = absurd cc
keys_length (t ∷ ts) (d ∷ ds) are =
    counted t d (keys_of ds) (same_Some (Some t) (tag_in d) (first_is (Some t) (tag_in d) (map Some ts) (map tag_in ds) are))
    ∙ ap suc (keys_length ts ds (others_are (Some t) (tag_in d) (map Some ts) (map tag_in ds) are))

pub key_there : (tags : List ℕ) (datas : List (List ℕ)) → AreTags tags datas → (i : ℕ) (rdata : List ℕ) (key : Key) → slice_get datas i ≡ Some rdata → key_of rdata ≡ Some key
    → slice_get (keys_of datas) i ≡ Some key
key_there tags [] are i rdata key there e = absurd cc
key_there [] (d ∷ ds) are i rdata key there e = absurd cc
key_there (t ∷ ts) (d ∷ ds) are zero rdata key there e =
    ap (λ o. slice_get (cons_option o (keys_of ds)) 0) (ap key_of (same_Some d rdata there) ∙ e)
key_there (t ∷ ts) (d ∷ ds) are (suc i) rdata key there e =
    let has = same_Some (Some t) (tag_in d) (first_is (Some t) (tag_in d) (map Some ts) (map tag_in ds) are) in
    ap (λ o. slice_get (cons_option o (keys_of ds)) (suc i)) (says t d (keys_of ds) has).1
    ∙ key_there ts ds (others_are (Some t) (tag_in d) (map Some ts) (map tag_in ds) are) i rdata key there e
