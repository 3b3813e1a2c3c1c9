-- What a buffer holds.
use Rattle.std.specs.Prelude.{ℕ, ◌-◌, List, slice_range, vec_len}
use Rattle.diag_interface.specs.declared.window.Window.{Window}

abbrev pub items : Window → List ℕ
items w = slice_range w.bytes.items w.start w.end

abbrev pub size : Window → ℕ
size w = vec_len w.bytes

abbrev pub room : Window → ℕ
room w = vec_len w.bytes - w.end
