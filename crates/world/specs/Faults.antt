-- Faults with the places where they came about.
use Rattle.std.specs.Prelude.{Ok, Err, Result}
use Rattle.world.specs.declared.fault.In.{In}

-- a result whose error has its place
abbrev pub placed : {T E P : Type 0} → Result T E → P → Result T (In E P)
placed (Ok v) p = Ok v
placed (Err e) p = Err (record { error = e; place = p })
