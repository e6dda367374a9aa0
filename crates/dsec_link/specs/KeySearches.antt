-- What the search for a DS record's key answers.
use Rattle.std.specs.Prelude.{Bool, true, false}
use Rattle.dsec_spec.specs.KeySearch as search
use Rattle.dsec_link.specs.declared.key_search.KeySearch.{KeySearch}
use Rattle.dsec_link.specs.declared.key_search.KeySearch.TheVariants.{FoundAt, NotFound, TooMany}
use Rattle.dsec_link.specs.declared.key_search.KeyTrial.{KeyTrial}
use Rattle.dsec_link.specs.declared.key_search.KeyTrial.TheVariants.{Match, Mismatch, Other, Excess}

-- the answer of the code
abbrev pub search_view : KeySearch → search.KeySearch
search_view (FoundAt index) = search.found_at index
search_view NotFound = search.not_found
search_view TooMany = search.too_many

-- what comes of one key: whether the DS record names it, whether it speaks of it, and whether it may be tried
abbrev pub trial_of : Bool → Bool → Bool → KeyTrial
trial_of false spoken may = Other
trial_of true spoken false = Excess
trial_of true true true = Match
trial_of true false true = Mismatch
