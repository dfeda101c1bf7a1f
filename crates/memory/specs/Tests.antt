-- The form test (refusal 7) on cells: one scan of the store from the front, one of the live stack, one of the state block. `Exact` shows that it accepts what a world in form is written as, and nothing else.
use Rattle.std.specs.Prelude.{List, Bool, true, ℕ, zero, suc, ◌+◌, ◌*◌, ◌-◌, length, get_or, take, drop, ltb, leb, eqb}
use Rattle.cells.specs.Cells.{null}
use Rattle.cells.specs.declared.Cell.{Cell}
use Rattle.image.specs.Records.{if?, both}
use Rattle.image.specs.Program.{all}
use Rattle.machine.specs.Values.{Program, code_of, is_effect}
use Rattle.machine.specs.Calls.{value_is}
use Rattle.memory.specs.View.{locals_of, handlers_of, stack_of, place_of, frame_size, frames_size}

-- the first cell of a kind of object stands at h, below b
unfoldable pub object_of : List Cell → ℕ → ℕ → ℕ → Bool
object_of S b kind h = both (ltb h b) (eqb (get_or S h null).tag kind)

abbrev pub is_null_cell : Cell → Bool
is_null_cell c = both (eqb c.tag 0) (both (eqb c.number 0) (eqb c.payload 0))

-- a callback frame has no place and no locals
unfoldable pub callback_fits : Bool → List Cell → Bool
callback_fits subject x = both subject (both (eqb (place_of x) 0) (eqb (locals_of x) 0))

-- the place's kind, and three spare cells
unfoldable pub spare_fits : List Cell → Bool
spare_fits x = both (eqb (get_or x 2 null).tag 68) (both (is_null_cell (get_or x 3 null)) (both (is_null_cell (get_or x 4 null)) (is_null_cell (get_or x 5 null))))

-- a handler's second cell: a target below the limit; in a callback frame, where the limit is 0, none
unfoldable pub target_fits : ℕ → Cell → Bool
target_fits limit c = both (eqb c.tag 67) (if? (eqb limit 0) (both (eqb c.number 0) (eqb c.payload 0)) (ltb c.number limit))

module _ (P : Program) (S : List Cell) (b : ℕ) where
  -- a value whose handle, if it has one, stands in the store S below b
  unfoldable pub value_fits : Cell → Bool
  value_fits v = value_is P (object_of S b 129 v.number) (object_of S b 128 v.number) (object_of S b 130 v.number) v

  unfoldable pub effect_fits : Cell → Bool
  effect_fits v = both (is_effect v) (value_fits v)

  -- ---- A frame at the front of x
  -- a Lucia frame: its closure, place and locals; its handlers' targets lie below the number of its opcodes
  abbrev pub code_at : List Cell → ℕ
  code_at x = (get_or S (get_or x 1 null).number null).number

  unfoldable pub lucia_fits : List Cell → Bool
  lucia_fits x =
      let c = get_or x 1 null in
      both (both (eqb c.tag 7) (eqb c.payload 0))
      (both (object_of S b 128 c.number)
      (both (ltb (code_at x) (length P.codes))
      (both (ltb (place_of x) (length (code_of P (code_at x)).opcodes))
      (eqb (locals_of x) (code_of P (code_at x)).locals))))

  unfoldable pub kind_fits : List Cell → Bool
  kind_fits x =
      if? (eqb (get_or x 0 null).tag 64) (lucia_fits x)
      (if? (eqb (get_or x 0 null).tag 65) (callback_fits (eqb (get_or x 1 null).tag 39) x)
      (both (eqb (get_or x 0 null).tag 66) (callback_fits (effect_fits (get_or x 1 null)) x)))

  -- below which its handlers' targets lie: 0 for a callback frame
  unfoldable pub limit_of : List Cell → ℕ
  limit_of x = if? (eqb (get_or x 0 null).tag 64) (length (code_of P (code_at x)).opcodes) 0

  -- so many handlers at the front of x
  unfoldable pub handlers_fit : ℕ → ℕ → List Cell → Bool
  handlers_fit limit zero x = true
  handlers_fit limit (suc n) x = both (both (effect_fits (get_or x 0 null)) (target_fits limit (get_or x 1 null))) (handlers_fit limit n (drop 2 x))

  -- the head; then the cells behind it
  unfoldable pub head_fits : List Cell → Bool
  head_fits x = both (leb 6 (length x)) (both (spare_fits x) (both (kind_fits x) (leb (handlers_of x) 16)))

  unfoldable pub body_fits : List Cell → Bool
  body_fits x =
      both (all value_fits (take (locals_of x) (drop 6 x)))
      (both (handlers_fit (limit_of x) (handlers_of x) (drop (6 + locals_of x) x))
      (all value_fits (take (stack_of x) (drop (6 + locals_of x + 2 * handlers_of x) x))))

  unfoldable pub frame_fits : List Cell → Bool
  frame_fits x = both (head_fits x) (both (leb (frame_size x) (length x)) (body_fits x))

  -- so many frames at the front of x
  unfoldable pub frames_fit : ℕ → List Cell → Bool
  frames_fit zero x = true
  frames_fit (suc n) x = both (frame_fits x) (frames_fit n (drop (frame_size x) x))

-- the kind of the frame that runs next: the top frame's where there is no result, 0 if there is none
unfoldable pub top_kind : ℕ → ℕ → List Cell → ℕ
top_kind zero result x = 0
top_kind (suc n) result x = if? (eqb result 0) (get_or x (frames_size n x) null).tag 0

-- a wait and a slice beside it
unfoldable pub turn_fits : ℕ → ℕ → ℕ → Bool
turn_fits top wait slice =
    if? (eqb top 64) (both (eqb wait 0) (leb slice 64))
    (if? (eqb top 65) (both (leb wait 1) (eqb slice 64))
    (both (eqb wait 0) (eqb slice 64)))

module _ (P : Program) (S : List Cell) where
  -- ---- The object at `at`: its handles stand below it, and it ends by `end`
  abbrev pub size_at : ℕ → ℕ
  size_at at = (get_or S at null).payload

  abbrev pub body_at : ℕ → List Cell
  body_at at = take (size_at at) (drop (at + 1) S)

  unfoldable pub closure_fits : ℕ → Bool
  closure_fits at =
      let c = (get_or S at null).number in
      both (ltb c (length P.codes)) (both (eqb (size_at at) (length (code_of P c).captures)) (all (value_fits P S at) (body_at at)))

  unfoldable pub list_fits : ℕ → Bool
  list_fits at = both (eqb (get_or S at null).number 0) (both (leb (size_at at) 4096) (all (value_fits P S at) (body_at at)))

  unfoldable pub continuation_fits : ℕ → Bool
  continuation_fits at =
      let n = (get_or S at null).number in
      both (both (leb 1 n) (leb n 256)) (both (frames_fit P S at n (body_at at)) (eqb (frames_size n (body_at at)) (size_at at)))

  unfoldable pub object_fits : ℕ → ℕ → Bool
  object_fits end at =
      both (leb (size_at at) (end - at - 1))
      (if? (eqb (get_or S at null).tag 128) (closure_fits at)
      (if? (eqb (get_or S at null).tag 129) (list_fits at)
      (both (eqb (get_or S at null).tag 130) (continuation_fits at))))

  -- objects from `at` to exactly `end`; each has a cell at least, so that as many objects as cells are enough
  unfoldable pub objects_fit : ℕ → ℕ → ℕ → Bool
  objects_fit end zero at = eqb at end
  objects_fit end (suc n) at = if? (ltb at end) (both (object_fits end at) (objects_fit end n (at + 1 + size_at at))) (eqb at end)

  unfoldable pub store_fits : ℕ → Bool
  store_fits used = both (leb used (length S)) (objects_fit used used 0)

  -- ---- The live stack: frames, then the arguments of an effect result
  unfoldable pub live_fits : ℕ → ℕ → ℕ → List Cell → Bool
  live_fits used count args x =
      both (leb count 256)
      (both (frames_fit P S used count x)
      (both (leb args (length (drop (frames_size count x) x)))
      (all (value_fits P S used) (take args (drop (frames_size count x) x)))))

  -- ---- The state block
  unfoldable pub error_fits : ℕ → ℕ → Cell → ℕ → Bool
  error_fits used kind v second =
      if? (eqb kind 3) (both (both (leb v.tag 32) (leb v.number 1)) (both (leb v.payload 4096) (eqb second 0)))
      (if? (eqb kind 4) (both (both (ltb v.tag 52) (ltb v.payload 10)) (eqb second 0))
      (if? (eqb kind 5) (both (both (ltb v.tag 52) (ltb v.payload 10)) (ltb second 10))
      (if? (eqb kind 6) (both (both (both (ltb v.tag 24) (eqb v.number 0)) (ltb v.payload 10)) (eqb second 0))
      (if? (eqb kind 7) (both (both (both (ltb v.tag 24) (eqb v.number 0)) (ltb v.payload 10)) (ltb second 10))
      (if? (eqb kind 8) (both (is_null_cell v) (eqb second 0))
      (both (both (leb 9 kind) (leb kind 10)) (both (value_fits P S used v) (eqb second 0))))))))

  unfoldable pub result_fits : ℕ → ℕ → Cell → Cell → Bool
  result_fits used kind v more =
      both (eqb more.number 0)
      (if? (eqb kind 2) (both (effect_fits P S used v) (eqb more.tag 0))
      (both (eqb more.payload 0)
      (if? (eqb kind 0) (both (is_null_cell v) (eqb more.tag 0))
      (if? (eqb kind 1) (both (value_fits P S used v) (eqb more.tag 0)) (error_fits used kind v more.tag)))))

  -- memory in form, by the cells of the state block and of the live stack
  unfoldable pub in_form : List Cell → List Cell → Bool
  in_form state live =
      let used = (get_or state 0 null).payload in
      let count = (get_or state 0 null).number in
      let turn = get_or state 1 null in
      let more = get_or state 3 null in
      both (store_fits used)
      (both (live_fits used count more.payload live)
      (both (result_fits used turn.payload (get_or state 2 null) more)
      (both (turn_fits (top_kind count turn.payload live) turn.number turn.tag)
      (all (value_fits P S used) (drop 4 state)))))
