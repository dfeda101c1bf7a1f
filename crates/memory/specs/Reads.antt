-- What the form test reads off a store: the cells S below b hold the objects s, where "a handle at an object" is one look at one cell.
use Rattle.std.specs.Prelude.{◌≡◌, List, ℕ, get_or}
use Rattle.cells.specs.Cells.{null}
use Rattle.cells.specs.declared.Cell.{Cell}
use Rattle.machine.specs.Machine.{Object, closure, here, object_at}
use Rattle.machine.specs.Calls.{is_closure_at, is_list_at, is_continuation_at}
use Rattle.memory.specs.Tests.{object_of}

pub record Reads (s : List Object) (S : List Cell) (b : ℕ) : Type 0 where
  pub lists : (h : ℕ) → object_of S b 129 h ≡ is_list_at (object_at s h)
  pub closures : (h : ℕ) → object_of S b 128 h ≡ is_closure_at (object_at s h)
  pub continuations : (h : ℕ) → object_of S b 130 h ≡ is_continuation_at (object_at s h)
  pub codes : (h c : ℕ) (us : List Cell) → object_at s h ≡ here (closure c us) → (get_or S h null).number ≡ c
