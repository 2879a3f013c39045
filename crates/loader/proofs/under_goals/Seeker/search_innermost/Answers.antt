-- The model at hand is written, if the last search found one: there is room for it.
use Rattle.std.proofs.Common.{refl, sym, subst}
use Rattle.problem.specs.Meant.{meant}
use Rattle.problem.proofs.Lawfulness.{lawful}
use Rattle.histories.specs.States.{begun}
use Rattle.loader.specs.Searching.{ModelLeft}
use Rattle.loader.proofs.Modelling.{model_left}
use Rattle.loader.proofs.under_goals.Seeker.search_innermost.Goals as goal

pub returns : goal.returns
returns g c =
    let p = c.args.self.now.problem.now in
    let d = c.search_depths-searched.ensures in
    let m = c.model.ensures in
    record {
      told = d.told;
      state = d.state;
      then_means = g.C.Chooser.meaning c.search_depths-searched.new.chooser;
      deepens = d.deepens;
      believed = d.believed;
      count = d.count;
      writes = d.writes;
      model =
          subst (ModelLeft (meant p) c.args.self.now.request.steps d.state d.state.model c.args.model.now c.model.new.output) (sym c.unwrap_or.ensures)
          (model_left (lawful p) c.search_depths-searched.new.session d.shows d.left c.args.model.now c.model.new.output c.requires.model c.model.result
          (m.modelled (begun d.state) d.shows) m.refused d.state.model refl);
    }
