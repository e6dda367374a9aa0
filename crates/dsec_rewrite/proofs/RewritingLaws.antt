-- What a rewriting comes to, by what was read and written.
use Rattle.std.proofs.Common.{◌≡◌, ℕ, ◌<◌, ◌≤◌, List, [], ◌∷◌, length, Option, Some, None, refl, sym, ap, ◌∙◌, arith, lt-ltb, le-ltb}
use Rattle.std.specs.Prelude.{Ok, Err}
use Rattle.dsec_spec.specs.Messages.{Header, Question, header_of}
use Rattle.dsec_spec.specs.Records.{Record}
use Rattle.dsec_spec.specs.WrittenMessages.{Written, message_octets}
use Rattle.dsec_builder.specs.Building.{IsMessageOf}
use Rattle.dsec_rewrite.specs.Cutting.{Bounded}
use Rattle.dsec_rewrite.specs.Rewriting.{kept_of, made_of, rewritten, sent, rewriting, IsRewriting}
use Rattle.dsec_rewrite.specs.declared.error.RewriteError.TheVariants.{ParseError, PushError}

-- a message that was written is sent
pub sent_whole : (w : Written) (made : List ℕ) → IsMessageOf w made → sent (Some w) ≡ Ok made
sent_whole w made is =
    let most : length (message_octets w) ≤ 65535 = rw (sym is.octets) is.at_most in
    rw (le-ltb 65535 (length (message_octets w)) most) (ap Ok (sym is.octets))

-- one that passes 65535 octets isn't
pub too_long : (w : Written) → 65535 < length (message_octets w) → sent (Some w) ≡ Err PushError
too_long w past = rw (lt-ltb 65535 (length (message_octets w)) past) refl

module _ (m : List ℕ) (answers authorities : List Bounded) (header : Header) (h : header_of m ≡ Some header) where
  pub rewritten_by : (kept : List Question × List Record) → kept_of m ≡ Some kept → rewritten m answers authorities ≡ Some (made_of header kept answers authorities)
  rewritten_by kept k = rw (h, k) refl

  pub unreadable : kept_of m ≡ None → rewriting m answers authorities ≡ Err ParseError
  unreadable k = rw (h, k) refl
