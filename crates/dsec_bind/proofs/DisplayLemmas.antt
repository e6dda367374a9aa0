-- A key's line in two pieces.
use Rattle.std.proofs.Common.{◌≡◌, ℕ, List, [], ◌∷◌, ◌++◌, refl, append_assoc, codes}
use Rattle.std.specs.Prelude.{decimal}
use Rattle.base64.specs.Engines.{standard}
use Rattle.base64.specs.GeneralPurpose.{encode_of}
use Rattle.dsec_spec.specs.Names.{Labels}
use Rattle.dsec_spec.specs.Records.{Key}
use Rattle.dsec_name.specs.NameDisplay.{name_text}
use Rattle.dsec_bind.specs.KeyDisplay.{key_line, line_back, line_front}

-- pieces of a line, joined in another order
joined : (n m f p a k : List ℕ) → n ++ m ++ f ++ 32 ∷ [] ++ (p ++ 32 ∷ [] ++ a ++ 32 ∷ [] ++ k ++ 10 ∷ []) ≡ (n ++ (m ++ (f ++ (32 ∷ (p ++ (32 ∷ (a ++ (32 ∷ k)))))))) ++ 10 ∷ []
joined n m f p a k = simp append_assoc refl

-- a line is its front and its back
pub line_pieces : (owner : Labels) (key : Key) → line_front owner key.flags ++ line_back key ≡ key_line owner key
line_pieces owner key = joined (name_text owner) (codes " IN DNSKEY ") (decimal key.flags) (decimal key.protocol) (decimal key.algorithm) (encode_of standard key.public_key)
