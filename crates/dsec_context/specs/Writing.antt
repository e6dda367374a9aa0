-- A message written out with the groups of its sections, and what it passes (RFC 1035 4.1, 4.2.2).
use Rattle.std.specs.Prelude.{◌≡◌, ℕ, List, map, Option, None, Err}
use Rattle.dsec_spec.specs.Groups.{Group, groups_of}
use Rattle.dsec_spec.specs.Messages.{additionals_of}
use Rattle.dsec_spec.specs.Reading.{◌>>=◌}
use Rattle.dsec_spec.specs.Records.{Record}
use Rattle.dsec_spec.specs.Redirection.{moved}
use Rattle.dsec_spec.specs.WrittenMessages.{Written}
use Rattle.dsec_nodes.specs.Alone.{sections_of}
use Rattle.dsec_rewrite.specs.Cutting.{Bounded}
use Rattle.dsec_rewrite.specs.Rewriting.{rewritten, sent}
use Rattle.dsec_rewrite.specs.declared.error.RewriteError.{RewriteError}
use Rattle.dsec_rewrite.specs.declared.error.RewriteError.TheVariants.{ParseError, PushError, NoMemory}

-- a group whose TTLs stay as they are
abbrev pub uncut : Group → Bounded
uncut group = record { group = group; bound = None }

-- the message written out item for item, each group of its answer and authority sections without duplicates; none where it can't be read, or has
-- more bare CNAME records than are followed (RFC 2181 5, RFC 6672 3.1)
abbrev pub written_out : List Record → ℕ → List ℕ → Option Written
written_out anchors most message = do
  sections ← sections_of message
  answers ← moved anchors most (groups_of sections.1)
  rewritten message (map uncut answers) (map uncut (groups_of sections.2))

-- a message that can't be rewritten, and why: a record of its additional section, or an item before it, can't be read (RFC 1035 4.1); or written
-- out it passes 65535 octets (RFC 1035 4.2.2)
abbrev pub CannotBeRewritten : List Record → ℕ → List ℕ → RewriteError → Type 0
CannotBeRewritten anchors most message ParseError = additionals_of message ≡ None
CannotBeRewritten anchors most message PushError = sent (written_out anchors most message) ≡ Err PushError
CannotBeRewritten anchors most message NoMemory = ⊥
