-- The form test computed on one world: a closure, two lists, a captured frame with a handler, a Lucia frame, and a host frame that is waited for.
use Rattle.std.specs.Prelude.{◌≡◌, [], ◌∷◌, ◌++◌, Bool, true, false, ℕ, replicate}
use Rattle.std.proofs.Math.Path.{refl}
use Rattle.cells.specs.Cells.{null}
use Rattle.cells.specs.declared.Cell.{Cell}
use Rattle.image.specs.Records.{both}
use Rattle.image.specs.Program.{all}
use Rattle.image.specs.declared.Op.{Op}
use Rattle.image.specs.declared.Capture.{Capture}
use Rattle.machine.specs.Values.{Program, int, builtin, list_at, closure_at, continuation_at}
use Rattle.machine.specs.Machine.{lucia, host, closure, list, continuation, running, frame_cost, frames_cost, cost, used}
use Rattle.machine.specs.Calls.{World, is_constant}
use Rattle.memory.specs.Layout.{written, handler_cells, flat, object_cells, store_cells, error_shown, result_shown, state_cells, live_cells}
use Rattle.memory.specs.View.{frames_size, handlers_at}
use Rattle.memory.specs.Tests.{object_of, callback_fits, spare_fits, target_fits, value_fits, effect_fits, lucia_fits, kind_fits, limit_of, handlers_fit, head_fits, body_fits, frame_fits, frames_fit, top_kind, turn_fits, closure_fits, list_fits, continuation_fits, object_fits, objects_fit, store_fits, live_fits, error_fits, result_fits, in_form}

module _ (op : Op) (capture : Capture) where
  -- one code of three opcodes, one local and one capture
  abbrev P : Program
  P = record { image = []; codes = record { params = 0; variadic = 0; locals = 1; stack_size = 4; opcodes = op ∷ op ∷ op ∷ []; globals = []; captures = capture ∷ []; constants = []; codes = [] } ∷ [] }

  -- v stands in the list at 2; the captured frame is at `place`; the continuation is at 5
  abbrev sample : Cell → ℕ → ℕ → World
  sample v place slice = record {
    machine = record {
      frames = host 3 4 (int 1 ∷ []) (builtin 0 ∷ []) ∷ lucia 0 0 (list_at 2 ∷ []) (continuation_at 5 ∷ []) [] ∷ [];
      store = closure 0 (null ∷ []) ∷ list (int 5 ∷ v ∷ []) ∷ continuation (lucia 0 place (null ∷ []) (int 7 ∷ []) (record { effect = builtin 1; target = 2; stack_size = 9 } ∷ []) ∷ []) ∷ list [] ∷ [];
      globals = replicate 256 null;
      builtins = replicate 256 null;
      result = running;
    };
    wait = true;
    slice = slice;
  }

  -- with a free cell behind live stack and store
  abbrev test : World → Bool
  test w = in_form P (store_cells w.machine.store ++ (null ∷ [])) (state_cells w) (live_cells w ++ (null ∷ []))

  -- in form; and not: a list that names itself, a list's handle at a later object, a place equal to the number of opcodes, a slice under way beside a host frame
  pub form_rows : (test (sample (closure_at 0) 2 64) ≡ true) × (test (sample (list_at 2) 2 64) ≡ false) × (test (sample (list_at 5) 2 64) ≡ false) × (test (sample (closure_at 0) 3 64) ≡ false) × (test (sample (closure_at 0) 2 63) ≡ false)
  unfolding in_form both all used cost frame_cost frames_cost is_constant written handler_cells flat object_cells store_cells error_shown result_shown frames_size handlers_at object_of callback_fits spare_fits target_fits value_fits effect_fits lucia_fits kind_fits limit_of handlers_fit head_fits body_fits frame_fits frames_fit top_kind turn_fits closure_fits list_fits continuation_fits object_fits objects_fit store_fits live_fits error_fits result_fits
  form_rows = (refl, refl, refl, refl, refl)
