-- What went out where nothing was sent.
use Rattle.std.proofs.Common.{ℕ, List, Option}
use Rattle.std.proofs.KnownBytes.{Appends-nil}
use Rattle.dsec_spec.specs.Outside.{SentFront}

-- nothing is a front of each text
pub nothing_sent : (a : Option (List ℕ)) (text : List ℕ) → SentFront a a text
nothing_sent a text = (0, Appends-nil a)
