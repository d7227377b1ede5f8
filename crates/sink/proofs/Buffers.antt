-- A walk stays in the same lent slices. Assumes nothing.
use mathlib.Core.Path.{refl, ◌∙◌}
use Rattle.sink.specs.declared.Sink.{Sink}
use Rattle.sink.specs.Take.{SameBuffers}

pub buffers-nothing : (s : Sink) → SameBuffers s s
buffers-nothing s = record { memo = refl; out = refl; notes = refl }

pub buffers-then : (s t u : Sink) → SameBuffers s t → SameBuffers t u → SameBuffers s u
buffers-then s t u a b = record { memo = b.memo ∙ a.memo; out = b.out ∙ a.out; notes = b.notes ∙ a.notes }
