-- What a result says where it isn't Ok.
use Rattle.std.proofs.Common.{◌≡◌, false, Result, Ok, Err}
use Rattle.std.specs.Prelude.{is_ok, MatchResult}
use Rattle.std.proofs.lemmas.Bool.{false≢true}

pub error_says : {T E : Type 0} (r : Result T E) (P : T → Type 0) (Q : E → Type 0) → MatchResult r P Q → false ≡ is_ok r → (e : E) × Q e
error_says (Ok x) P Q says not_ok = absurd (false≢true not_ok)
error_says (Err e) P Q says not_ok = (e, says)
