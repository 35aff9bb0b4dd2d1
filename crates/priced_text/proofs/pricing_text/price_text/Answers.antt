use Rattle.std.proofs.Common.{◌≡◌, ℕ, cond, ltb, List, ◌++◌, length, Ok, Err, Result, sym, refl, ap, ◌∙◌, rules}
use Rattle.sheet.specs.Figures.{figures_of}
use Rattle.sheet_text.specs.Reading.{Reported}
use Rattle.sheet_text.specs.declared.faults.SheetFault.{SheetFault}
use Rattle.pricing.specs.Cases.{case}
use Rattle.pricing.specs.Figures.{settled_of}
use Rattle.text_buffer.specs.Texts.{written}
use Rattle.priced_text.specs.Priced.{page_text, text_of_priced}
use Rattle.priced_text.specs.Answers.{priced_answer, priced_output}
use Rattle.priced_text.specs.declared.refusal.PricingRefusal.{PricingRefusal}
use Rattle.priced_text.specs.declared.refusal.PricingRefusal.TheVariants.{OutputShort}
use Rattle.priced_text.proofs.Pages.{Limited, page_length}
use Rattle.priced_text.proofs.AnyCase.{read_listed}
use Rattle.text_buffer.proofs.Placing.{never_refused, ok_answer, short_answer, copied}
use Rattle.priced_text.proofs.pricing_text.price_text.Goals as goal

pub returns-in_err-put_on : goal.returns-in_err-put_on
returns-in_err-put_on g c =
    let p = c.settlement_prices-prices.result in
    let limited : Limited (settled_of p) = record { imsp = p.imsp.limited; up = p.up.limited; down = p.down.limited } in
    let listed = read_listed c.args.text.now _ (sym c.in_ok-report.ensures) in
    absurd (never_refused 935 c.new-page.ensures (page_length (settled_of p) (figures_of c.in_ok-report.report.sheet) limited listed c.zone_state-state.result) refl c.in_err-put_on.ensures)

pub returns-in_err-copy_to : goal.returns-in_err-copy_to
unfolding text_of_priced
returns-in_err-copy_to g c =
    let view = g.H.PriceHistory.view c.args.history.now in
    let report = c.in_ok-report.report in
    let out = c.args.out.now in
    let page = page_text c.zone_state-state.result (settled_of c.settlement_prices-prices.result) (figures_of report.sheet) in
    let text = text_of_priced (case view report.place report.sheet) in
    let priced : page ≡ text = λ i. page_text (c.zone_state-state.ensures i) (c.settlement_prices-prices.ensures i) (figures_of report.sheet) in
    let w = written c.put_on.new.page in
    let is : w ≡ text = c.in_ok-put_on.ensures.after refl ∙ ap (λ (b : List ℕ). b ++ page) c.new-page.ensures ∙ priced in
    let read = c.in_ok-report.ensures in
    let told : c.from_residual-in_err-copy_to.result ≡ Err OutputShort = search rules in
    record {
      answer =
          told ∙ short_answer w out OutputShort c.in_err-copy_to.ensures.length
          ∙ ap (λ (t : List ℕ). cond {A = Result ℕ PricingRefusal} (ltb (length out) (length t)) (Err OutputShort) (Ok (length t))) is
          ∙ ap (λ (r : Result Reported SheetFault). priced_answer view r (length out)) read;
      output = copied {E = ℕ} w text out (Err 0) is c.in_err-copy_to.ensures.length c.in_err-copy_to.ensures.after ∙ ap (λ (r : Result Reported SheetFault). priced_output view r out) read;
    }

pub returns : goal.returns
unfolding text_of_priced
returns g c =
    let view = g.H.PriceHistory.view c.args.history.now in
    let report = c.in_ok-report.report in
    let out = c.args.out.now in
    let page = page_text c.zone_state-state.result (settled_of c.settlement_prices-prices.result) (figures_of report.sheet) in
    let text = text_of_priced (case view report.place report.sheet) in
    let priced : page ≡ text = λ i. page_text (c.zone_state-state.ensures i) (c.settlement_prices-prices.ensures i) (figures_of report.sheet) in
    let w = written c.put_on.new.page in
    let is : w ≡ text = c.in_ok-put_on.ensures.after refl ∙ ap (λ (b : List ℕ). b ++ page) c.new-page.ensures ∙ priced in
    let read = c.in_ok-report.ensures in
    record {
      answer =
          ok_answer w out OutputShort c.in_ok-copy_to.field-0 c.in_ok-copy_to.ensures.length
          ∙ ap (λ (t : List ℕ). cond {A = Result ℕ PricingRefusal} (ltb (length out) (length t)) (Err OutputShort) (Ok (length t))) is
          ∙ ap (λ (r : Result Reported SheetFault). priced_answer view r (length out)) read;
      output = copied {E = ℕ} w text out (Ok c.in_ok-copy_to.field-0) is c.in_ok-copy_to.ensures.length c.in_ok-copy_to.ensures.after ∙ ap (λ (r : Result Reported SheetFault). priced_output view r out) read;
    }
