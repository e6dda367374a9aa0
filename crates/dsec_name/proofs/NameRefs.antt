-- What a borrowed name is.
use Rattle.dsec_spec.specs.Names.{IsName}
use Rattle.dsec_name.specs.declared.name_ref.NameRef.{NameRef}
use Rattle.dsec_name.specs.NameRefs.{name_view}

-- a borrowed name's labels are a name's
pub IsName-name_view : (it : NameRef) → IsName (name_view it)
IsName-name_view it = it.whole.name
