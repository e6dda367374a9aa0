-- What DNAME records say of CNAME records, as the code answers it.
use Rattle.std.specs.Prelude.{◌==◌, ◌&&◌, List, Bool, Option, Some, None, Result, Ok, Err}
use Rattle.std.proofs.Math.Bool.{not}
use Rattle.dsec_name.specs.declared.push_name.PushNameError.{PushNameError}
use Rattle.dsec_spec.specs.Groups.{Group}
use Rattle.dsec_spec.specs.Names.{Labels, place}
use Rattle.dsec_spec.specs.Numbers.{DNAME}
use Rattle.dsec_spec.specs.Records.{Record}
use Rattle.dsec_spec.specs.Redirection as redirection
use Rattle.dsec_spec.specs.Redirection.{stands_between}
use Rattle.dsec_group.specs.declared.dname.Mapping.{Mapping}

-- a name, or that there is none of at most 255 octets
abbrev pub or_push_error : Option Labels → Result Labels PushNameError
or_push_error (Some name) = Ok name
or_push_error None = Err PushNameError.PushNameError

-- the answer of the code
abbrev pub mapping_view : Mapping → redirection.Mapping
mapping_view Mapping.Silent = redirection.silent
mapping_view Mapping.Agrees = redirection.agrees
mapping_view Mapping.TooLong = redirection.too_long

-- whether a group may speak of a CNAME record: it is of DNAME records of its class, and no anchor stands between
abbrev pub may_speak : List Record → Record → Group → Bool
may_speak anchors cname g = (g.rtype == DNAME) && (g.class == cname.class) && not (stands_between anchors (place cname.owner) (place g.owner))
