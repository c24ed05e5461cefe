-- The parts of the state put together.
use Rattle.std.proofs.Common.{◌≡◌, ℕ, List, [], ◌∷◌, ◌++◌, length, map, ◌∙◌, ap, append_assoc}
use Rattle.spec_roles.specs.HardState.{HardState}
use Rattle.spec_refinement.specs.States.{hard_lines}
use Rattle.spec_world.specs.Outputs.{Line, State, Fence, Banned, Packets}
use Rattle.spec_world.specs.Show.{show, show_jobs}
use Rattle.spec_world.specs.World.{World}
use Rattle.schedule_replay.specs.Parts.{show_masters, show_agents, show_apps, show_parties}

-- lists in their order, whichever are put together first
together : (j b m a x p : List Line) → (j ++ b) ++ ((m ++ (a ++ x)) ++ p) ≡ j ++ (b ++ (m ++ (a ++ (x ++ p))))
together j b m a x p = append_assoc j b ((m ++ (a ++ x)) ++ p) ∙ ap (λ l. j ++ (b ++ l)) (append_assoc m (a ++ x) p ∙ ap (λ l. m ++ l) (append_assoc a x p))

pub whole_state : (w : World) (h : HardState) (events packets : ℕ) → h ≡ w.hard → events ≡ w.events → packets ≡ length w.net.packets → State events ∷ hard_lines h ++ (show_parties w ++ Packets packets ∷ []) ≡ show w
whole_state w h events packets is so many = (λ i. State (so i) ∷ hard_lines (is i) ++ (show_parties w ++ Packets (many i) ∷ []))
    ∙ ap (λ ls. State w.events ∷ Fence w.hard.fence ∷ ls) (together (show_jobs w.hard.jobs) (map (λ m. Banned m) w.hard.bans) (show_masters w) (show_agents w) (show_apps w) (Packets (length w.net.packets) ∷ []))
