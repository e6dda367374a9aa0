-- The steps of a walk with what answers each, case by case.
use Rattle.std.proofs.Common.{ℕ, List, Option}
use Rattle.dsec_nodes.specs.Nodes.{Node}
use Rattle.dsec_nodes.specs.ByDs.{Pending}
use Rattle.dsec_nodes.specs.Walking.{Phase, begins, gets, asks_first, asks_keys, puts, ends, Input, begin, node, stored, reply, Answers}

-- what holds of each step with what answers it holds wherever an input answers
pub each_answer : (P : Phase → Input → Type 0) → P begins begin → ((o : Option Node) → P gets (node o))
    → ((octets : Option (List ℕ)) → P asks_first (reply octets))
    → ((pending : Pending) (octets : Option (List ℕ)) → P (asks_keys pending) (reply octets))
    → P puts stored → (x : Phase) (i : Input) → Answers x i → P x i
each_answer P begun got first keys put begins begin a = begun
each_answer P begun got first keys put gets (node o) a = got o
each_answer P begun got first keys put asks_first (reply octets) a = first octets
each_answer P begun got first keys put (asks_keys pending) (reply octets) a = keys pending octets
each_answer P begun got first keys put puts stored a = put
each_answer P begun got first keys put begins (node o) a = absurd a
each_answer P begun got first keys put begins stored a = absurd a
each_answer P begun got first keys put begins (reply octets) a = absurd a
each_answer P begun got first keys put gets begin a = absurd a
each_answer P begun got first keys put gets stored a = absurd a
each_answer P begun got first keys put gets (reply octets) a = absurd a
each_answer P begun got first keys put asks_first begin a = absurd a
each_answer P begun got first keys put asks_first (node o) a = absurd a
each_answer P begun got first keys put asks_first stored a = absurd a
each_answer P begun got first keys put (asks_keys pending) begin a = absurd a
each_answer P begun got first keys put (asks_keys pending) (node o) a = absurd a
each_answer P begun got first keys put (asks_keys pending) stored a = absurd a
each_answer P begun got first keys put puts begin a = absurd a
each_answer P begun got first keys put puts (node o) a = absurd a
each_answer P begun got first keys put puts (reply octets) a = absurd a
each_answer P begun got first keys put ends i a = absurd a
