-- The end of operators.
use Rattle.std.specs.Prelude.{◌≡◌, ℕ, List, [], ◌∷◌, ◌++◌, nat_le, if◌then◌else◌}
use Rattle.kernel_grammar.specs.declared.step.Step.{Step}
use Rattle.kernel_grammar.specs.declared.step.Step.TheVariants as step
use Rattle.kernel_expressions.specs.declared.frame.Frame.{Frame}
use Rattle.kernel_expressions.specs.declared.frame.Frame.TheVariants.{Infix, Prefix, Group, Body, Places, First, Test, Then}
use Rattle.kernel_expressions.specs.Frames.{own_level}

-- open parts, the innermost first, steps, and the level of the operand behind them
pub record Held : Type 0 where
  pub frames : List Frame
  pub done : List Step
  pub level : ℕ

-- the step of an operator that ends
abbrev pub end_step : Frame → List Step
end_step (Infix op) = step.Infix op ∷ []
end_step (Prefix op) = step.Prefix op ∷ []
end_step Group = []
end_step (Body last) = []
end_step (Places name b count) = []
end_step (First which start) = []
end_step Test = []
end_step Then = []

-- the operators of this level and tighter ones are ended
abbrev pub ended : ℕ → List Frame → List Step → ℕ → Held
ended p [] done operand = record { frames = []; done = done; level = operand }
ended p (frame ∷ frames) done operand =
    if nat_le p (own_level frame) then ended p frames (done ++ end_step frame) (own_level frame)
    else record { frames = frame ∷ frames; done = done; level = operand }

-- The innermost operator is ended.
abbrev pub EndsInnermost : List Frame → List Step → List Frame → List Step → Type 0
EndsInnermost [] done frames new = (frames ≡ []) × (new ≡ done)
EndsInnermost (frame ∷ outer) done frames new = (frames ≡ outer) × (new ≡ done ++ end_step frame)
