-- The tags of cells by name and number.
use Rattle.std.specs.Prelude.{ℕ, Result, Ok, Err, cond, eqb}
use Rattle.cells.specs.declared.Cell.{Cell}
use Rattle.cells.specs.declared.tags.Tag.{Tag}
use Rattle.cells.specs.declared.tags.Tag.TheVariants as tag
use Rattle.cells.specs.declared.tags.UnknownTag.{UnknownTag}

abbrev pub tag_number : Tag → ℕ
tag_number tag.Null = 0
tag_number tag.Bool = 1
tag_number tag.Int = 2
tag_number tag.Float = 3
tag_number tag.Str = 4
tag_number tag.Bytes = 5
tag_number tag.List = 6
tag_number tag.Closure = 7
tag_number tag.BuiltinEffect = 8
tag_number tag.Message = 20
tag_number tag.Continuation = 23
tag_number tag.Effect = 24
tag_number tag.Callback = 39
tag_number tag.FrameLucia = 64
tag_number tag.FrameCallback = 65
tag_number tag.FrameEffect = 66
tag_number tag.Handler = 67
tag_number tag.Place = 68
tag_number tag.ObjectClosure = 128
tag_number tag.ObjectList = 129
tag_number tag.ObjectContinuation = 130

-- a cell of this tag
abbrev pub tagged : Tag → ℕ → ℕ → Cell
tagged t number payload = record { tag = tag_number t; number = number; payload = payload }

-- the tag with this number
unfoldable pub tag_of : ℕ → Result Tag UnknownTag
tag_of n =
    cond (eqb n 0) (Ok tag.Null)
    (cond (eqb n 1) (Ok tag.Bool)
    (cond (eqb n 2) (Ok tag.Int)
    (cond (eqb n 3) (Ok tag.Float)
    (cond (eqb n 4) (Ok tag.Str)
    (cond (eqb n 5) (Ok tag.Bytes)
    (cond (eqb n 6) (Ok tag.List)
    (cond (eqb n 7) (Ok tag.Closure)
    (cond (eqb n 8) (Ok tag.BuiltinEffect)
    (cond (eqb n 20) (Ok tag.Message)
    (cond (eqb n 23) (Ok tag.Continuation)
    (cond (eqb n 24) (Ok tag.Effect)
    (cond (eqb n 39) (Ok tag.Callback)
    (cond (eqb n 64) (Ok tag.FrameLucia)
    (cond (eqb n 65) (Ok tag.FrameCallback)
    (cond (eqb n 66) (Ok tag.FrameEffect)
    (cond (eqb n 67) (Ok tag.Handler)
    (cond (eqb n 68) (Ok tag.Place)
    (cond (eqb n 128) (Ok tag.ObjectClosure)
    (cond (eqb n 129) (Ok tag.ObjectList)
    (cond (eqb n 130) (Ok tag.ObjectContinuation)
    (Err (record { number = n }))))))))))))))))))))))
