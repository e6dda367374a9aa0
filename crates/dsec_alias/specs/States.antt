-- The four states, and how one follows on another (RFC 4033 5).

-- what is found of a set, a denial or a message (RFC 4033 5)
pub data State : Type 0 where
  secure : State
  insecure : State
  bogus : State
  indeterminate : State

-- the state of what was found after others of this state: theirs where it is Secure, and else its own (RFC 4035 5)
abbrev pub map_maybe_secure : State → State → State
map_maybe_secure secure maybe = maybe
map_maybe_secure insecure maybe = insecure
map_maybe_secure bogus maybe = bogus
map_maybe_secure indeterminate maybe = indeterminate
