mod ProcedureLaws
