use Rattle.std.proofs.Common.{sym, ap, ◌∙◌, ◌-◌}
use Rattle.std.specs.Option.{option_copied}
use Rattle.checking.proofs.KeptRoutes.{steps_found, steps_none}
use Rattle.checking.proofs.routes.Routes.steps.Goals as goal

pub returns-in-Some-clause-steps : goal.returns-in-Some-clause-steps
returns-in-Some-clause-steps c =
    c.saturating_sub.ensures ∙ ap (λ n. n - 1) c.len.ensures.value
    ∙ steps_found c.args.cart.0 c.args.self.now.kept.items _ (sym (ap option_copied c.in-Some.is) ∙ c.route.ensures)

pub returns-in-None-clause-steps : goal.returns-in-None-clause-steps
returns-in-None-clause-steps c = steps_none c.args.cart.0 c.args.self.now.kept.items (sym (ap option_copied c.in-None.is) ∙ c.route.ensures)
