mod OperateLaws
