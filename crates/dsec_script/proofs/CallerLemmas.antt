-- For callers: a script that was read up to its limit says what all of it says.
use Rattle.std.proofs.Common.{◌≡◌, ℕ, List, ◌++◌, ◌<◌, ◌≤◌, ◌+◌, length, refl, Option, arith}
use Rattle.std.specs.Prelude.{IfSome}
use Rattle.std.specs.Io.KnownBytes.{Consumes, IsAtEnd}
use Rattle.std.proofs.lemmas.Bool.{lt-ltb}
use Rattle.std.proofs.lemmas.List.{length-append}
use Rattle.dsec_outside.specs.Limit.{limit}
use Rattle.dsec_outside.proofs.CallerLemmas.{line_past-append, says-taken}
use Rattle.dsec_script.specs.Script.{script_of}

-- past the limit the rest doesn't count
pub script_of-append : (content more : List ℕ) → limit < length content → script_of (content ++ more) ≡ script_of content
unfolding script_of
script_of-append content more l =
    let n : length (content ++ more) ≡ length content + length more = length-append content more in
    rw (lt-ltb limit (length (content ++ more)) (omega (arith, n, l)), lt-ltb limit (length content) l, line_past-append content more l) refl

-- what `read_all` took says what all that was left says
pub script_of-taken : (left rest : Option (List ℕ)) (content : List ℕ) → Consumes left rest content → (length content ≤ limit → IsAtEnd rest) → IfSome left (λ all. script_of all ≡ script_of content)
script_of-taken left rest content taken whole = says-taken script_of script_of-append left rest content taken whole
