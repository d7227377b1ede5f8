-- The reference that a value of the code stands for. Assumes nothing.
use Rattle.as5506.specs.Tables.{Ref, ref}
use Rattle.columns.specs.declared.reference.Reference.{Reference}

abbrev pub ref_of : Reference → Ref
ref_of r = ref r.package r.type_name r.implementation
